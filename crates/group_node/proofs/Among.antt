-- The packets of every run are among its voters and agents.
use Rattle.std.proofs.Common.{◌≡◌, ℕ, zero, suc, ◌*◌, ◌≤◌, List, [], ◌∷◌, subst, arith, Some, All}
use Rattle.std.specs.Prelude.{slice_get}
use Rattle.std.proofs.Math.Nat.{mul-le-mul_right}
use Rattle.std.proofs.lemmas.Option.{same_Some, none-some}
use Rattle.std.proofs.lemmas.List.Elements.{All-head, All-tail}
use Rattle.metering_model.specs.Batch.{Batch}
use Rattle.metering_model.specs.Holding.{Holding, held}
use Rattle.metering_model.specs.World.{Packet, CarriesBatch, Prepare, Promise, Accept, Accepted, Decided, World, voter_count}
use Rattle.group_laws.specs.EveryRun.{IsBallot, IsPacket, KeepsLimits}
use Rattle.metering_model.specs.KeptText.{IsBallotNumber}
use Rattle.group_node.specs.Packets.{IsPacketAmong}

pub ballot_number : (voters ballot : ℕ) → voters ≤ 99 → IsBallot voters ballot → IsBallotNumber ballot
ballot_number voters ballot few is =
    let low : 1 * voters ≤ is.round * voters = mul-le-mul_right voters is.round_in.0 in
    let most : 10_001 * voters ≤ 10_001 * 99 = omega arith in
    (omega (arith, low, is.is, is.votes), omega (arith, most, is.low))

pub packet_among : (voters agents : ℕ) (journals : Holding) (q : Packet) → voters ≤ 99 → ((agent seq : ℕ) (b : Batch) → held journals agent seq ≡ Some b → agent ≤ agents)
    → IsPacket voters agents journals q → IsPacketAmong voters agents q
packet_among voters agents journals (CarriesBatch b) few in_range is = in_range b.agent b.seq b is.1
packet_among voters agents journals (Prepare period ballot) few in_range is = ballot_number voters ballot few is.1
packet_among voters agents journals (Promise from period ballot vote) few in_range is = is.0
packet_among voters agents journals (Accept period ballot cut) few in_range is = (ballot_number voters ballot few is.1, is.2.size)
packet_among voters agents journals (Accepted from period ballot cut) few in_range is = (is.0, is.3.size)
packet_among voters agents journals (Decided period cut) few in_range is = is.1.size

at_entry : {A : Type 0} (P : A → Type 0) (xs : List A) (k : ℕ) (x : A) → All P xs → slice_get xs k ≡ Some x → P x
at_entry P [] k x all e = absurd (none-some x e)
at_entry P (y ∷ xs) zero x all e = subst P (same_Some y x e) (All-head P y xs all)
at_entry P (y ∷ xs) (suc k) x all e = at_entry P xs k x (All-tail P y xs all) e

-- each packet of a world that keeps its limits
pub packet_of_run : (room voters observers agents : ℕ) (w : World) (k : ℕ) (q : Packet) → voters ≤ 99 → KeepsLimits room voters observers agents w → slice_get w.packets k ≡ Some q → IsPacketAmong (voter_count w) w.agents q
packet_of_run room voters observers agents w k q few keeps e =
    packet_among (voter_count w) w.agents w.journals q (omega (arith, keeps.voters_kept)) keeps.in_range (at_entry (IsPacket (voter_count w) w.agents w.journals) w.packets k q keeps.each_packet e)
