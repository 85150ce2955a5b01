-- What a node does with a packet, said of each world that it may stand in.
use Rattle.std.specs.Prelude.{◌≡◌, ℕ, Bool, Option}
use Rattle.std.specs.Option.{is_some}
use Rattle.metering_model.specs.World.{Packet, World, voter_count}
use Rattle.metering_model.specs.Deliveries.{handled}
use Rattle.group_node.specs.Nodes.{NodeAmong}

-- Node i, of a group with this base month, becomes the new one, sends and learns: just what the model has in each world with
-- this base month and with the node's voters and agents.
pub record Does (base i : ℕ) (packet : Packet) (old new : NodeAmong) (sends : Option Packet) (learns : Option ℕ) : Type 0 where
  pub handles : (w : World) → w.sheet.base ≡ base → w.agents ≡ old.agents → voter_count w ≡ old.voters →
      handled w i old.node packet ≡ record { node = new.node; sends = sends; learns = learns }
  pub voters : new.voters ≡ old.voters
  pub agents : new.agents ≡ old.agents

-- whether node i of a group with its voters sends something when the packet comes
pub record Answers (i : ℕ) (packet : Packet) (n : NodeAmong) (answers : Bool) : Type 0 where
  pub sends : (w : World) → voter_count w ≡ n.voters → is_some (handled w i n.node packet).sends ≡ answers
