-- A node revived from its text.
use Rattle.std.proofs.Common.{rules}
use Rattle.group_state.proofs.state.GroupState.revive.Goals as goal

pub returns : goal.returns
returns c = search rules
