use Rattle.std.proofs.Common.{◌++◌, sym, ap, ◌∙◌}
use Rattle.input_check.proofs.SaidLaws.{both_on_ok, on_ok, rated_badly}
use Rattle.input_check.proofs.WarnedLaws.{no_rating_warned}
use Rattle.fault_lines.proofs.KeysOnLine.{still}
use Rattle.input_check.proofs.ratings.check_rating.Goals as goal

pub returns-in-Err : goal.returns-in-Err
returns-in-Err c =
    let told = c.args.told.now.items in
    let refused = c.in-Err.ensures.refused in
    record {
      said =
          both_on_ok c.put_fault.result (λ other same. same ∙ ap (λ t. told ++ t) (sym (rated_badly c.args.text.now c.in-Err.fault (refused other))))
          c.put_fault.ensures.memory c.put_fault.ensures.said;
      warned =
          on_ok c.put_fault.result (λ other. still c.args.warned.now.items _ (no_rating_warned c.args.text.now c.in-Err.fault (refused other)))
          c.put_fault.ensures.memory;
    }
