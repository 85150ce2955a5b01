use Rattle.utc_calendar.proofs.MonthOrder.{month_start-lt}
use Rattle.period_cut.proofs.PeriodOrder.{period_start-lt, period_end-lt, period_start-lt_base}
use Rattle.period_cut.proofs.laws.later_periods_begin_later.Goals as goal

pub returns-clause-months : goal.returns-clause-months
returns-clause-months c = month_start-lt

pub returns-clause-starts : goal.returns-clause-starts
returns-clause-starts c = period_start-lt

pub returns-clause-ends : goal.returns-clause-ends
returns-clause-ends c = period_end-lt

pub returns-clause-bases : goal.returns-clause-bases
returns-clause-bases c = period_start-lt_base
