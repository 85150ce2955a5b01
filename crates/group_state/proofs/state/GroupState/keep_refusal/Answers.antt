use Rattle.group_state.proofs.Outcomes.{kept_told}
use Rattle.group_state.proofs.state.GroupState.keep_refusal.Goals as goal

pub returns-in-Ok : goal.returns-in-Ok
returns-in-Ok c = (_, kept_told c.args.self.now c.args.node c.in-Ok.field-0.now.node c.in-Ok.ensures.0)
