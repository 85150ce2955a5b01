-- What a tally keeps in its type.
use Rattle.std.specs.Prelude.{◌≡◌, ℕ, ◌≤◌, length, All}
use Rattle.std.specs.Map.{values_of}
use Rattle.metering_model.specs.Ballot.{Tally}
use Rattle.metering_model.specs.Limits.{most_nodes}

-- each set of a tally has a mark for each node
pub record IsTally (nodes : ℕ) (tally : Tally) : Type 0 where
  pub few : nodes ≤ most_nodes
  pub whole : All (λ set. length set ≡ nodes) (values_of tally)
