use Rattle.std.proofs.Common.{ap, sym, subst, ◌∙◌}
use Rattle.group_events.specs.Events.{event_of}
use Rattle.fault_lines.specs.Ahead.{AreLatest, ahead_of_all}
use Rattle.input_check.specs.Inner.Counted.{with_counted}
use Rattle.input_check.proofs.CountedBatches.{ahead_of_none, no_batch_journaled}
use Rattle.fault_lines.proofs.KeysOnLine.{still}
use Rattle.input_check.proofs.warnings.put_ahead_of.Goals as goal

pub returns-in_default : goal.returns-in_default
returns-in_default c =
    let none = no_batch_journaled c.args.line (event_of c.args.event.now) c.args.reply.now c.in_default.not-Journaled in
    record {
      said = λ journaled latest. still c.args.warned.now.items _ (ap (ahead_of_all journaled) none ∙ ahead_of_none journaled);
      latest = λ journaled latest. subst (λ xs. AreLatest c.args.latest.now (with_counted xs journaled)) (sym none) latest;
    }
