use Rattle.period_cut.proofs.PeriodOrder.{period_start-lt-end, period_end-le-start}
use Rattle.period_cut.proofs.laws.periods_follow_one_another.Goals as goal

pub returns-clause-has_moments : goal.returns-clause-has_moments
returns-clause-has_moments c = period_start-lt-end

pub returns-clause-apart : goal.returns-clause-apart
returns-clause-apart c = period_end-le-start
