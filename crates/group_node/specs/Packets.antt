-- The packets of the model that those of a group stand for, and what a node asks of one.
use Rattle.std.specs.Prelude.{◌≡◌, ℕ, ◌<◌, ◌≤◌, length}
use Rattle.std.specs.Arc.{arc_value}
use Rattle.metering_model.specs.World.{CarriesBatch, Prepare, Promise, Accept, Accepted, Decided, Packet as ModelPacket}
use Rattle.batch_view.specs.Batches.{batch_of}
use Rattle.metering_model.specs.KeptText.{IsBallotNumber}
use Rattle.group_node.specs.declared.packets.Packet.{Packet}
use Rattle.group_node.specs.declared.packets.Packet.TheVariants.{Batch as BatchPacket, Prepare as PreparePacket, Promise as PromisePacket, Accept as AcceptPacket, Accepted as AcceptedPacket, Decided as DecidedPacket}

abbrev pub packet_of : Packet → ModelPacket
packet_of (BatchPacket batch) = CarriesBatch (batch_of (arc_value batch))
packet_of (PreparePacket period ballot) = Prepare period ballot
packet_of (PromisePacket from period ballot vote) = Promise from period ballot vote
packet_of (AcceptPacket period ballot cut) = Accept period ballot (arc_value cut)
packet_of (AcceptedPacket from period ballot cut) = Accepted from period ballot (arc_value cut)
packet_of (DecidedPacket period cut) = Decided period (arc_value cut)

-- A packet among so many voters and agents: its sender is one of the voters, its batch of one of the agents, a cut that
-- may be kept has an entry for each agent, and a ballot that may be kept is one of 99 nodes.
abbrev pub IsPacketAmong : ℕ → ℕ → ModelPacket → Type 0
IsPacketAmong voters agents (CarriesBatch b) = b.agent ≤ agents
IsPacketAmong voters agents (Prepare period ballot) = IsBallotNumber ballot
IsPacketAmong voters agents (Promise from period ballot vote) = from < voters
IsPacketAmong voters agents (Accept period ballot cut) = IsBallotNumber ballot × (length cut ≡ agents)
IsPacketAmong voters agents (Accepted from period ballot cut) = (from < voters) × (length cut ≡ agents)
IsPacketAmong voters agents (Decided period cut) = length cut ≡ agents
