-- A node among the voters and agents of its group.
use Rattle.std.specs.Prelude.{◌≡◌, ℕ, ◌≤◌, length, Some}
use Rattle.metering_model.specs.Limits.{most_nodes}
use Rattle.metering_model.specs.Ballot.{Attempt}
use Rattle.metering_model.specs.World.{Node}
use Rattle.node_kept.specs.Kept.{IsKept}

-- a node, how many nodes of its group vote, and the number of agents of its store
pub record NodeAmong : Type 0 where
  pub voters : ℕ
  pub agents : ℕ
  pub node : Node

-- At most 99 voters; what is kept is within its limits, and an attempt has a mark for each voter.
pub record IsNodeAmong (n : NodeAmong) : Type 0 where
  pub few : n.voters ≤ most_nodes
  pub kept : IsKept (record { agents = n.agents; kept = n.node.kept })
  pub attempt : (a : Attempt) → n.node.attempt ≡ Some a → length a.promising ≡ n.voters
