use Rattle.std.proofs.Common.{rules, ◌∙◌, refl, [], Err, ap, arith, length, subst, inl, inr}
use Rattle.counted_io.specs.Counts.{count_after}
use Rattle.process_player.specs.Faults.{tells_of_reader, tells_of_writer}
use Rattle.process_player.specs.Inner.Reading.{HasBegun}
use Rattle.process_player.proofs.Commands.{ends_of, on_err, on_ok, runs_of, torn_later_of}
use Rattle.process_player.proofs.Failing.{memory_no_read, one_fault}
use Rattle.process_player.proofs.Refusing.{known_input, serving_rejects}
use Rattle.process_player.proofs.Stopping.{answer_rejects, no_refusal, refusal_no_write}
use Rattle.process_player.proofs.Unbegun.{begins_none}
use Rattle.process_player.proofs.serving.process_text.Given as given
use Rattle.process_player.proofs.serving.process_text.Goals.{After-drop-unread-inside-in-Ok-write_begun}
use Rattle.process_player.proofs.serving.process_text.Goals as goal

begun : (g : given.Over) (c : After-drop-unread-inside-in-Ok-write_begun g)
    → HasBegun c.args.kind c.in-Ok.process [] c.begin.new.unread.bytes (g.R.Source.remaining c.args.reader.now) (g.R.Source.remaining c.begin.new.source)
begun g c =
    subst (λ a. HasBegun c.args.kind c.in-Ok.process a c.begin.new.unread.bytes (g.R.Source.remaining c.args.reader.now) (g.R.Source.remaining c.begin.new.source))
    c.new-unread.ensures.bytes c.in-Ok.ensures.begun

pub begin-requires-clause-at_hand : goal.begin-requires-clause-at_hand
begin-requires-clause-at_hand g c = omega (arith, ap length c.new-unread.ensures.bytes)

pub serve-ended-requires-clause-at_hand : goal.serve-ended-requires-clause-at_hand
serve-ended-requires-clause-at_hand g c = c.in-Ok.ensures.begun.at_hand

pub returns-in-Ok-write_begun : goal.returns-in-Ok-write_begun
returns-in-Ok-write_begun g c = record {
  done = on_ok c.serve-ended.result (ends_of (begun g c) c.in-Ok-write_begun.ensures.written) c.serve-ended.ensures.ended;
  kept = on_err c.serve-ended.result (λ fault of it. absurd (no_refusal _ fault of it)) c.serve-ended.ensures.others;
  whole = on_err c.serve-ended.result
      (λ fault it other.
      let so = it other in
      inr (record { last = so.last; piece = c.serve-ended.new.unread.bytes; runs = runs_of (begun g c) c.in-Ok-write_begun.ensures.written so.continues; answered = so.torn }))
      c.serve-ended.ensures.stopped;
  torn = λ is. inr (torn_later_of (begun g c) c.in-Ok-write_begun.ensures.written (c.serve-ended.ensures.torn is));
  refused = on_err c.serve-ended.result (serving_rejects (begun g c)) c.serve-ended.ensures.others;
  calls = record {
    reads = c.serve-ended.ensures.reads.count ∙ ap (count_after (tells_of_reader c.serve-ended.result)) c.in-Ok.ensures.reads.count;
    writes = c.serve-ended.ensures.writes ∙ ap (count_after (tells_of_writer c.serve-ended.result)) c.in-Ok-write_begun.ensures.count;
  };
}

pub returns-in-Err : goal.returns-in-Err
returns-in-Err g c = record {
  done = tt;
  kept = λ it. refl;
  whole = λ other. inl (record { unwritten = refl; unbegun = λ is. begins_none _ c.new-unread.ensures.bytes (c.in-Err.ensures.failed is) });
  torn = λ is. absurd (c.in-Err.ensures.no_write (ap Err (one_fault is)));
  refused = known_input _ _ _ _ c.new-unread.ensures.bytes c.in-Err.ensures.refused;
  calls = search rules;
}

-- ---- for what the search finds too, and takes long for

pub returns : goal.returns
returns g c = record {
  done = tt;
  kept = λ it. (c.in-Err-write_begun.ensures.others (refusal_no_write it)).1;
  whole = λ other. let told = c.in-Err-write_begun.ensures.others other in inl (record { unwritten = told.1; unbegun = memory_no_read told.0 });
  torn = search rules;
  refused = answer_rejects c.args.kind _ c.in-Err-write_begun.fault (g.R.Source.remaining c.args.reader.now) c.in-Err-write_begun.ensures.others;
  calls = search rules;
}
