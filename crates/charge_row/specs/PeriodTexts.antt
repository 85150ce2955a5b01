-- The texts of a billing period's bounds.
use Rattle.std.specs.Prelude.{◌≡◌, ℕ, List}
use Rattle.metering_model.specs.Dates.{period_start_text, period_end_text}

-- The texts are those of the period's first moment and of the first moment behind it.
pub record ArePeriodTexts (base period : ℕ) (start end : List ℕ) : Type 0 where
  pub start_is : start ≡ period_start_text base period
  pub end_is : end ≡ period_end_text base period
