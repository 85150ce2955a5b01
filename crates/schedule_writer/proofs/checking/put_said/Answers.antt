use Rattle.std.proofs.Common.{sym, ap, ◌∙◌, ◌++◌}
use Rattle.fault_lines.proofs.KeysOnLine.{still}
use Rattle.schedule_writer.specs.Inner.SaidLines.{said_of_refused, warned_of_refused}
use Rattle.schedule_writer.proofs.CheckLaws.{both_on_ok, in_two_parts, on_ok, warned_of_given}
use Rattle.schedule_writer.proofs.checking.put_said.Goals as goal

pub returns-in-Err : goal.returns-in-Err
returns-in-Err c = record {
  said = both_on_ok c.put_fault.result
      (λ said known. said ∙ ap (λ t. c.args.told.now.items ++ t) (sym (said_of_refused c.args.input.now c.in-Err.fault (c.in-Err.ensures.refused known))))
      c.put_fault.ensures.said c.put_fault.ensures.memory;
  warned = on_ok c.put_fault.result
      (λ known. still c.args.warned.now.items _ (warned_of_refused c.args.input.now c.in-Err.fault (c.in-Err.ensures.refused known)))
      c.put_fault.ensures.memory;
}

pub returns-in-Ok-put_unknown_on : goal.returns-in-Ok-put_unknown_on
returns-in-Ok-put_unknown_on c =
    let given = c.in-Ok.given in
    record {
      said = c.check_batches.ensures.told;
      warned = on_ok c.check_batches.result
          (λ ahead. in_two_parts c.args.warned.now.items _ _ _ _ _ c.in-Ok-put_unknown_on.ensures ahead
          (warned_of_given c.args.input.now given.batch_from given.sheet given.issuer c.in-Ok.ensures.within c.in-Ok.ensures.taken))
          c.check_batches.ensures.ahead;
    }
