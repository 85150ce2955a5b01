-- When an event is not refused, and what it does then.
use Rattle.std.specs.Prelude.{◌≡◌, ℕ, ◌<◌, ◌≤◌, ◌++◌, [], List, length, map, Option, Some, None, true, slice_get, Ok}
use Rattle.std.specs.Option.{is_some, option_map}
use Rattle.std.specs.List.{cons_option}
use Rattle.metering_model.specs.Batch.{Batch}
use Rattle.metering_model.specs.Cut.{Cut, IsAtLeast}
use Rattle.metering_model.specs.Holding.{put, up_to}
use Rattle.metering_model.specs.JournalRules.{MeetsJournalRules}
use Rattle.metering_model.specs.Sheet.{Sheet}
use Rattle.metering_model.specs.World.{World, Node, Packet, CarriesBatch, Reply, Journaled, Delivered, current_period, voter_count, with_packet}
use Rattle.metering_model.specs.Deliveries.{handled}
use Rattle.metering_model.specs.Step.{cut_before, first_missing, on_batch}
use Rattle.metering_model.specs.Limits.{most_periods, most_rounds}
use Rattle.group_node.specs.Nodes.{NodeAmong}
use Rattle.group_node.specs.Packets.{IsPacketAmong, packet_of}
use Rattle.group_node.specs.declared.packets.Packet as group
use Rattle.group_node.specs.Handling.{Does}

-- The batch is of an agent of the world, and is journaled.
pub record MayJournal (w : World) (b : Batch) : Type 0 where
  pub agent : b.agent ≤ w.agents
  pub room : length w.packets < w.room
  pub outcome : on_batch w b ≡ Ok (Journaled (length w.packets), with_packet (CarriesBatch b) (record w { journals = put w.journals b }))

-- Packet and node are there, and where the node sends something there is room for it.
pub record MayDeliver (w : World) (k i : ℕ) : Type 0 where
  pub packet : k < length w.packets
  pub node : i < length w.nodes
  pub room : (n : Node) (q : Packet) → slice_get w.nodes i ≡ Some n → slice_get w.packets k ≡ Some q →
      is_some (handled w i n q).sends ≡ true → length w.packets < w.room

-- Packet k was sent, and is one among the voters and agents that a node knows of.
pub record IsSentAmong (packets : List group.Packet) (k : ℕ) (n : NodeAmong) : Type 0 where
  pub there : k < length packets
  pub among : (q : Packet) → slice_get (map packet_of packets) k ≡ Some q → IsPacketAmong n.voters n.agents q

-- A node took packet k, and what it sends stands behind the packets that were there.
pub record HandsOver (base i k : ℕ) (before after : List Packet) (old new : NodeAmong) (reply : Reply) : Type 0 where
  pub packet : Packet
  pub sends : Option Packet
  pub learns : Option ℕ
  pub was : slice_get before k ≡ Some packet
  pub does : Does base i packet old new sends learns
  pub packets : after ≡ before ++ cons_option sends []
  pub tells : reply ≡ Delivered (option_map (λ q. length before) sends) learns

-- The node is there and votes, works on that period, has a round left, and there is room for its packet.
pub record MayBegin (w : World) (i period : ℕ) : Type 0 where
  pub node : i < length w.nodes
  pub votes : i < voter_count w
  pub works : (n : Node) → slice_get w.nodes i ≡ Some n → (current_period n ≡ period) × (period < most_periods) × (n.kept.round < most_rounds)
  pub room : length w.packets < w.room

-- The node has the journals' batches up to the cut that it learned for the period, and none of them is missing.
pub record MayTake (sheet : Sheet) (agents period : ℕ) (to : Cut) (n : NodeAmong) : Type 0 where
  pub among : n.agents ≡ agents
  pub size : length to ≡ agents
  pub grows : IsAtLeast to (cut_before agents n.node.kept.learned period)
  pub whole : first_missing n.node.kept.holding to ≡ None
  pub met : MeetsJournalRules sheet (up_to to n.node.kept.holding)
