-- A line that is no event is refused at its own number.
use Rattle.std.proofs.Common.{rules}
use Rattle.schedule_reader.specs.Schedules.{line_event}
use Rattle.schedule_reader.proofs.events.line_event.Goals as goal

pub returns-in-None-clause-event : goal.returns-in-None-clause-event
unfolding line_event
returns-in-None-clause-event c = search rules
