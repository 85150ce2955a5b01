use Rattle.std.proofs.Common.{rules}
use Rattle.utc_calendar.proofs.dates.Day.of_month.Goals as goal

pub returns-in-Err : goal.returns-in-Err
returns-in-Err c = search rules
