-- A delivery tells its packet and then its node.
use Rattle.std.proofs.Common.{rules}
use Rattle.schedule_reader.proofs.events.delivery.Goals as goal

pub returns-clause-event : goal.returns-clause-event
returns-clause-event c = search rules
