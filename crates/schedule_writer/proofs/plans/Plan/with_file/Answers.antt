use Rattle.std.proofs.Common.{rules}
use Rattle.schedule_writer.proofs.plans.Plan.with_file.Goals as goal

pub returns-then-seen-self : goal.returns-then-seen-self
returns-then-seen-self c = search rules
