-- Decimals without zeros at their end.
use Rattle.std.specs.Prelude.{◌≡◌, ℕ, ◌<◌, ◌≤◌, ◌^◌}
use Rattle.metering_model.specs.NumberText.{decimals_of}

-- a number's decimals are those of a smaller number in fewer places
pub record IsCutTo (places number kept left : ℕ) : Type 0 where
  pub positive : 0 < left
  pub below : left < 10 ^ kept
  pub fewer : kept ≤ places
  pub same : decimals_of kept left ≡ decimals_of places number
