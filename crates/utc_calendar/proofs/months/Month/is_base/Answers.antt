-- A month before the first or behind the last is none.
use Rattle.std.proofs.Common.{rules}
use Rattle.utc_calendar.proofs.months.Month.is_base.Goals as goal

pub returns-else-self-ge-FIRST_BASE_MONTH : goal.returns-else-self-ge-FIRST_BASE_MONTH
returns-else-self-ge-FIRST_BASE_MONTH c = search rules
