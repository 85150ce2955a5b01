use Rattle.std.proofs.Common.{refl}
use Rattle.group_events.proofs.events.Event.copy.Goals as goal

pub returns-in-Restart-clause-copy : goal.returns-in-Restart-clause-copy
returns-in-Restart-clause-copy c = rw c.in-Restart.is refl
