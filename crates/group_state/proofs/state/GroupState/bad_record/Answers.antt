use Rattle.group_state.proofs.Reaching.{limits_here}
use Rattle.group_state.proofs.state.GroupState.bad_record.Goals as goal

pub bad_in-requires : goal.bad_in-requires
bad_in-requires c = (limits_here c.args.self.now c.requires.reached).rules
