-- What ties the parts of a world's state together.
use Rattle.std.specs.Prelude.{◌≡◌, ℕ, ◌+◌, ◌≤◌, List, [], ◌∷◌, ◌++◌, length, All}
use Rattle.metering_model.specs.Ballot.{ballot_of}
use Rattle.metering_model.specs.World.{Packet, Prepare, Reply, Started}
use Rattle.metering_model.specs.Step.{started_node}
use Rattle.metering_model.specs.Limits.{most_nodes}
use Rattle.group_node.specs.Nodes.{NodeAmong}

-- a node of a group with so many voters and agents
pub record IsMember (voters agents : ℕ) (n : NodeAmong) : Type 0 where
  pub votes : n.voters ≡ voters
  pub stores : n.agents ≡ agents

-- The nodes are at most 99, one at least votes, and each knows how many do, and has room for the batches of just these agents.
pub record AreMembers (voters agents : ℕ) (nodes : List NodeAmong) : Type 0 where
  pub few : length nodes ≤ most_nodes
  pub one_votes : 1 ≤ voters
  pub are_nodes : voters ≤ length nodes
  pub each : All (IsMember voters agents) nodes

abbrev pub next_ballot : ℕ → NodeAmong → ℕ
next_ballot i n = ballot_of (n.node.kept.round + 1) i n.voters

-- Node i has begun its next ballot, and the packet that asks for promises stands behind those that were there.
pub record Begins (i period : ℕ) (before after : List Packet) (old new : NodeAmong) (reply : Reply) : Type 0 where
  pub node : new ≡ record { voters = old.voters; agents = old.agents; node = started_node old.voters (next_ballot i old) old.node }
  pub packets : after ≡ before ++ Prepare period (next_ballot i old) ∷ []
  pub tells : reply ≡ Started (next_ballot i old) (length before)
