use Rattle.std.proofs.Common.{refl, rules}
use Rattle.std.proofs.KnownBytes.{Keeps-refl}
use Rattle.schedule_player.proofs.TranscriptLaws.{agents_within, prefix_of_input, prefix_of_whole, group_of, nodes_within, none_of_input, played_input, want_of}
use Rattle.schedule_player.proofs.play.play_input.Goals as goal

pub play_schedule-requires-clause-nodes : goal.play_schedule-requires-clause-nodes
play_schedule-requires-clause-nodes g c = nodes_within c.args.input.now c.in-Ok.schedule c.in-Ok.ensures.form

pub play_schedule-requires-clause-agents : goal.play_schedule-requires-clause-agents
play_schedule-requires-clause-agents g c = agents_within c.args.input.now c.in-Ok.schedule c.in-Ok.ensures.form

pub returns-in-Ok-clause-writes : goal.returns-in-Ok-clause-writes
returns-in-Ok-clause-writes g c =
    let input = c.args.input.now in
    let schedule = c.in-Ok.schedule in
    let is = c.in-Ok.ensures in
    let played = c.play_schedule.ensures in
    record {
      transcript = played_input input schedule is.taken is.form is.rules c.play_schedule.result _ _ played.writes.written;
      prefix = λ write. prefix_of_whole input schedule is.taken is.form is.rules _ _ (played.writes.prefix write);
      memory = λ want. prefix_of_input input schedule is.taken is.form is.rules _ _ (played.memory want);
      count = played.writes.count;
    }

pub returns-in-Err-clause-writes : goal.returns-in-Err-clause-writes
returns-in-Err-clause-writes g c = record {
  transcript = tt;
  prefix = search rules;
  memory = λ is. none_of_input c.args.input.now _ _ (Keeps-refl (g.W.Sink.contents c.args.writer.now));
  count = search rules;
}

pub returns-in-Ok-clause-want : goal.returns-in-Ok-clause-want
returns-in-Ok-clause-want g c = λ is. group_of c.args.input.now _ c.in-Ok.ensures.taken

pub returns-in-Err-clause-want : goal.returns-in-Err-clause-want
returns-in-Err-clause-want g c = λ is. c.in-Err.ensures.want (want_of _ _ c.from.ensures (cc))

pub returns-in-Err-clause-kept : goal.returns-in-Err-clause-kept
returns-in-Err-clause-kept g c = λ fault is. refl
