-- A revival has one line at least.
use Rattle.std.proofs.Common.{rules}
use Rattle.schedule_reader.proofs.events.revival_of_line.Goals as goal

pub returns-else-count-eq0-clause-value : goal.returns-else-count-eq0-clause-value
returns-else-count-eq0-clause-value c = search rules
