use Rattle.group_state.proofs.Reaching.{limits_here}
use Rattle.group_core.proofs.world.World.limits.Goals as goal

pub returns : goal.returns
returns c = (c.reached.ensures.observers, limits_here c.args.self.now c.reached.ensures)
