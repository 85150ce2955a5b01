-- The cuts between which rows are.
use Rattle.std.specs.Prelude.{◌≡◌, ℕ, length}
use Rattle.metering_model.specs.Cut.{Cut, IsAtLeast}

-- The later cut is one of so many agents, and has of each what the earlier has.
pub record AreCuts (count : ℕ) (from to : Cut) : Type 0 where
  pub agents : length to ≡ count
  pub grows : IsAtLeast to from
