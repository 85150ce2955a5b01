-- Digits in front of a text.
use Rattle.std.specs.Prelude.{◌≡◌, ℕ, ◌<◌, ◌≤◌, IsTrue, false, List, length, take, slice_index}
use Rattle.std.specs.List.{list_all}
use Rattle.metering_model.specs.NumberText.{is_digit}

-- So many of the first bytes are digits, and no more, up to `most`.
pub record AreLeading (text : List ℕ) (most many : ℕ) : Type 0 where
  pub within : many ≤ length text
  pub few : many ≤ most
  pub digits : IsTrue (list_all is_digit (take many text))
  pub stops : many < most → many < length text → is_digit (slice_index text many) ≡ false
