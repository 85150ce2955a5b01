use Rattle.std.proofs.Common.{arith}
use Rattle.std.proofs.lemmas.Grind.{common_steps}
use Rattle.schedule_writer.proofs.plans.Plan.is_done.Goals as goal

pub returns-then-seen-eq0 : goal.returns-then-seen-eq0
returns-then-seen-eq0 c = grind (arith, common_steps)
