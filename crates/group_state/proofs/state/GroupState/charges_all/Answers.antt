use Rattle.std.proofs.Common.{sym, ◌∙◌}
use Rattle.group_state.proofs.ChargedLaws.{all_of_answer, none_of_refused}
use Rattle.group_state.proofs.state.GroupState.charges_all.Goals as goal

pub returns-in-Ok : goal.returns-in-Ok
returns-in-Ok c = all_of_answer c.args.self.now c.args.node c.args.period c.in-Ok.taken c.is_all_due.result (sym c.in_ok-answer.ensures ∙ c.in-Ok.is) c.is_all_due.ensures

pub returns-in-Err : goal.returns-in-Err
returns-in-Err c = none_of_refused c.args.self.now c.args.node c.args.period _ (sym c.in_ok-answer.ensures ∙ c.in-Err.is)
