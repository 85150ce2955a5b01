-- By one month after another.
use Rattle.utc_calendar.proofs.MonthOrder.{month_start-lt}
use Rattle.utc_calendar.proofs.calendar.later_months_begin_later.Goals as goal

pub returns : goal.returns
returns c = month_start-lt
