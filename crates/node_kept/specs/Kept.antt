-- What a node keeps over a restart, and its limits.
use Rattle.std.specs.Prelude.{◌≡◌, ◌≤◌, ℕ, length, All, Some}
use Rattle.metering_model.specs.Ballot.{Vote}
use Rattle.metering_model.specs.Limits.{most_periods, most_rounds}
pub use Rattle.metering_model.specs.KeptText.{KeptAmong, IsBallotNumber}

-- Numbers within their limits, and one number of agents in the store, the learned cuts and the vote's cut.
pub record IsKept (k : KeptAmong) : Type 0 where
  pub round : k.kept.round ≤ most_rounds
  pub periods : length k.kept.learned ≤ most_periods
  pub cuts : All (λ cut. length cut ≡ k.agents) k.kept.learned
  pub promised : (ballot : ℕ) → k.kept.acceptor.promised ≡ Some ballot → IsBallotNumber ballot
  pub vote : (v : Vote) → k.kept.acceptor.vote ≡ Some v → IsBallotNumber v.ballot × (length v.cut ≡ k.agents)
