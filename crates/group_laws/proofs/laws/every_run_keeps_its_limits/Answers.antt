use Rattle.group_laws.proofs.Limits.{keeps_limits}
use Rattle.group_laws.proofs.laws.every_run_keeps_its_limits.Goals as goal

pub returns : goal.returns
returns c = record { holds = keeps_limits }
