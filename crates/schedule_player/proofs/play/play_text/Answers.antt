use Rattle.std.proofs.Common.{refl, sym, ap, ◌∙◌}
use Rattle.counted_io.specs.Counts.{count_after}
use Rattle.program_input.specs.declared.ScheduleFault.TheVariants.{OutOfMemory}
use Rattle.schedule_player.proofs.Answered.{is_section, no_cut, no_reader, none_told, still, told_err, unrefused, uses}
use Rattle.schedule_player.proofs.PlayedLaws.{longer_schedule, plain_fault, told_of_known, of_known, cut_of_known, prefix_of_known, nothing_of}
use Rattle.schedule_player.proofs.play.play_text.Goals as goal

pub returns-clause-transcript : goal.returns-clause-transcript
returns-clause-transcript g c =
    of_known c.play_read.result (g.R.Source.remaining c.args.reader.now) _ _ c.in_ok-input.input.items c.in_ok-input.ensures.whole c.play_read.ensures.writes.transcript

pub returns-clause-prefix : goal.returns-clause-prefix
returns-clause-prefix g c = λ is.
    cut_of_known (g.R.Source.remaining c.args.reader.now) _ _ c.in_ok-input.input.items c.in_ok-input.ensures.whole (c.play_read.ensures.writes.prefix is)

pub returns-clause-memory : goal.returns-clause-memory
returns-clause-memory g c = λ is.
    prefix_of_known (g.R.Source.remaining c.args.reader.now) _ _ c.in_ok-input.input.items c.in_ok-input.ensures.whole (c.play_read.ensures.writes.memory is)

pub returns-clause-faults : goal.returns-clause-faults
returns-clause-faults g c = record {
  section = λ fault is.
      told_of_known (g.R.Source.remaining c.args.reader.now) c.in_ok-input.input.items fault c.in_ok-input.ensures.whole (c.play_read.ensures.section fault is).1;
  plain_memory = λ is. (c.play_read.ensures.section OutOfMemory is).0 refl;
  unrefused = c.play_read.ensures.no_refusal;
}

pub returns-clause-kept : goal.returns-clause-kept
returns-clause-kept g c = c.play_read.ensures.kept

pub returns-clause-streams : goal.returns-clause-streams
returns-clause-streams g c = record {
  read = c.in_ok-input.ensures.taken;
  end = λ ok. c.in_ok-input.ensures.end;
  reads = c.in_ok-input.ensures.count ∙ sym (ap (λ b. count_after b (g.R.Source.failed_calls c.args.reader.now)) (no_reader c.play_read.result c.play_read.ensures.no_read));
  writes = c.play_read.ensures.writes.count;
}

pub returns-in_err-input-clause-transcript : goal.returns-in_err-input-clause-transcript
returns-in_err-input-clause-transcript g c =
    none_told c.from_residual.result _ (told_err _ _ c.from_residual.ensures.1) c.in_err-input.ensures.no_other _

pub returns-in_err-input-clause-prefix : goal.returns-in_err-input-clause-prefix
returns-in_err-input-clause-prefix g c = λ is. no_cut c.from_residual.result _ (told_err _ _ c.from_residual.ensures.1) c.in_err-input.ensures.no_other is

pub returns-in_err-input-clause-memory : goal.returns-in_err-input-clause-memory
returns-in_err-input-clause-memory g c = λ is. nothing_of (g.R.Source.remaining c.args.reader.now) (g.W.Sink.contents c.args.writer.now)

pub returns-in_err-input-clause-faults : goal.returns-in_err-input-clause-faults
returns-in_err-input-clause-faults g c =
    let e = told_err c.from_residual.result _ c.from_residual.ensures.1 in
    let ends = c.in_err-input.ensures.no_other in
    record {
      section = λ fault is.
          let told = c.in_err-input.ensures.section fault (is_section c.from_residual.result _ e ends fault is) in
          longer_schedule (g.R.Source.remaining c.args.reader.now) fault told.1 (sym told.0);
      plain_memory = λ is. plain_fault OutOfMemory (sym (c.in_err-input.ensures.section OutOfMemory (is_section c.from_residual.result _ e ends OutOfMemory is)).0) refl;
      unrefused = unrefused c.from_residual.result _ e ends;
    }

pub returns-in_err-input-clause-kept : goal.returns-in_err-input-clause-kept
returns-in_err-input-clause-kept g c = still c.from_residual.result _ (told_err _ _ c.from_residual.ensures.1) c.in_err-input.ensures.no_other _

pub returns-in_err-input-clause-streams : goal.returns-in_err-input-clause-streams
returns-in_err-input-clause-streams g c =
    uses c.from_residual.result _ (told_err _ _ c.from_residual.ensures.1) c.in_err-input.ensures.no_other _ _ _ _ _ _ c.in_err-input.ensures.taken c.in_err-input.ensures.count
