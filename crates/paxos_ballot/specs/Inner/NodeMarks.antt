-- A set of nodes as the bits of one number.
use Rattle.std.specs.Prelude.{ℕ, zero, suc, ◌/◌, ◌%◌, ◌^◌, ◌<◌, ◌≤◌, ◌==◌, [], ◌∷◌}
use Rattle.metering_model.specs.Ballot.{Nodes}
use Rattle.metering_model.specs.Limits.{most_nodes}

-- the marks of so many nodes: bit i stands for node i
abbrev pub marks_of : ℕ → ℕ → Nodes
marks_of zero bits = []
marks_of (suc nodes) bits = (bits % 2 == 1) ∷ marks_of nodes (bits / 2)

pub record IsNodeSet (nodes bits : ℕ) : Type 0 where
  pub few : nodes ≤ most_nodes
  pub within : bits < 2 ^ nodes
