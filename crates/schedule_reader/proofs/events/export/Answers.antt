-- An export tells its node and then its period.
use Rattle.std.proofs.Common.{rules}
use Rattle.schedule_reader.proofs.events.export.Goals as goal

pub returns-clause-event : goal.returns-clause-event
returns-clause-event c = search rules
