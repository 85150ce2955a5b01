-- A tally among so many nodes.
use Rattle.std.specs.Prelude.{ℕ}
use Rattle.metering_model.specs.Ballot.{Tally}

pub record TallyAmong : Type 0 where
  pub nodes : ℕ
  pub accepting : Tally
