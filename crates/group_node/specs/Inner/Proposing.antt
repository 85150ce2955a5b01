-- What a node proposes, without a world.
use Rattle.std.specs.Prelude.{ℕ, Bool, false, ◌==◌, ◌&&◌, Option, Some, None, option_map, if◌then◌else◌}
use Rattle.metering_model.specs.Cut.{Cut}
use Rattle.metering_model.specs.Front.{front}
use Rattle.metering_model.specs.Ballot.{Vote, Attempt, greater_vote}
use Rattle.metering_model.specs.World.{Packet, Accept, Node, current_period, last_cut}
use Rattle.node_kept.specs.Promises.{proposes, after_promise}
use Rattle.group_node.specs.Nodes.{NodeAmong}

-- the cut that a proposer sends, in a group with that base month and so many agents
abbrev pub proposal_at : ℕ → ℕ → Node → Option Vote → Cut
proposal_at base agents n (Some v) = v.cut
proposal_at base agents n None = front base n.kept.holding (last_cut agents n.kept.learned) (current_period n)

-- what it sends at that promise to the attempt
abbrev pub accept_at : ℕ → ℕ → Node → ℕ → ℕ → ℕ → Option Vote → Attempt → Option Packet
accept_at base agents n from period ballot vote a =
    if proposes from a then Some (Accept period ballot (proposal_at base agents n (greater_vote a.told vote))) else None

abbrev pub is_at : ℕ → Option Attempt → Bool
is_at ballot None = false
is_at ballot (Some a) = a.ballot == ballot

-- promises for that ballot count: it is that of the node's attempt, in its current period
abbrev pub awaits : ℕ → ℕ → Node → Bool
awaits period ballot n = (period == current_period n) && is_at ballot n.attempt

-- the node with that promise counted
abbrev pub counted : ℕ → Option Vote → NodeAmong → NodeAmong
counted from vote n = record n { node = record n.node { attempt = option_map (after_promise from vote) n.node.attempt } }
