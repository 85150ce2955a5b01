-- Both bounds are first moments of months before the year 10000.
use Rattle.std.proofs.Common.{◌+◌, arith}
use Rattle.metering_model.proofs.MonthTexts.{stamp_in-month_start_text}
use Rattle.period_cut.proofs.laws.period_texts_are_of_the_bounds.Goals as goal

pub returns-clause-start : goal.returns-clause-start
returns-clause-start c =
    λ base p is_base is_period. stamp_in-month_start_text (base + p) (omega arith) (omega arith)

pub returns-clause-end : goal.returns-clause-end
returns-clause-end c =
    λ base p is_base is_period. stamp_in-month_start_text (base + p + 1) (omega arith) (omega arith)
