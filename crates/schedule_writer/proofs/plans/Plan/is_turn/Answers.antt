use Rattle.std.proofs.Common.{rules}
use Rattle.schedule_writer.proofs.plans.Plan.is_turn.Goals as goal

pub returns-then-period-self : goal.returns-then-period-self
returns-then-period-self c = search rules
