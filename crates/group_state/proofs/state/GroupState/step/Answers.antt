use Rattle.std.proofs.Common.{rules}
use Rattle.group_state.proofs.state.GroupState.step.Goals as goal

pub returns-in-Start-clause-ok : goal.returns-in-Start-clause-ok
returns-in-Start-clause-ok c = search rules
