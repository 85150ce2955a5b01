-- Reading stands behind so many lines of a text.
use Rattle.std.specs.Prelude.{◌≡◌, ℕ, ◌≤◌, List, length, take, drop}
use Rattle.metering_model.specs.BatchReading.{lines_in}
use Rattle.metering_model.specs.Schedule.{lines_text}

-- So many lines lie before that byte, and it comes right behind them.
pub record IsPast (text : List ℕ) (count at : ℕ) : Type 0 where
  pub within : at ≤ length text
  pub enough : count ≤ length (lines_in text).lines
  pub feeds : count ≤ at
  pub lines : (lines_in (drop at text)).lines ≡ drop count (lines_in text).lines
  pub place : at ≡ length (lines_text (take count (lines_in text).lines))
