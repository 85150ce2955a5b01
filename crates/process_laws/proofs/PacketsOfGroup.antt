-- A packet that a run sent passes the test of a packet of the group, and a node does with it what it does in the run's world.
use Rattle.std.proofs.Common.{◌≡◌, ℕ, ◌*◌, ◌<◌, ◌≤◌, true, ◌&&◌, refl, arith, Option, Some, None, nat_lt, nat_le}
use Rattle.std.proofs.Math.Nat.{mul-le-mul_right}
use Rattle.std.proofs.lemmas.Bool.{and_from, eq-eqb, le-leb, lt-ltb}
use Rattle.metering_model.specs.Limits.{most_periods}
use Rattle.metering_model.specs.Batch.{Batch}
use Rattle.metering_model.specs.Cut.{Cut}
use Rattle.metering_model.specs.Holding.{Holding, held}
use Rattle.metering_model.specs.Ballot.{Vote}
use Rattle.metering_model.specs.World.{Packet, CarriesBatch, Prepare, Promise, Accept, Accepted, Decided}
use Rattle.group_laws.specs.EveryRun.{IsBallot, IsJournaledCut, MayBeVote, IsPacket}
use Rattle.process_laws.specs.LocalSteps.{is_ballot_of, is_cut_of, is_vote_of, is_period, is_packet_of}

ballot_passes : (voters ballot : ℕ) → IsBallot voters ballot → is_ballot_of voters ballot ≡ true
ballot_passes voters ballot h =
    let below : 1 * voters ≤ h.round * voters = mul-le-mul_right voters h.round_in.0 in
    let is = h.is in
    let high = h.low in
    and_from (nat_le voters ballot) (nat_lt ballot (10_001 * voters)) (le-leb voters ballot (omega (arith, below, is))) (lt-ltb ballot (10_001 * voters) high)

cut_passes : (agents : ℕ) (journals : Holding) (cut : Cut) → IsJournaledCut agents journals cut → is_cut_of agents cut ≡ true
cut_passes agents journals cut h = eq-eqb _ agents h.size

vote_passes : (voters agents : ℕ) (journals : Holding) (vote : Option Vote) → MayBeVote voters agents journals vote → is_vote_of voters agents vote ≡ true
vote_passes voters agents journals None h = refl
vote_passes voters agents journals (Some v) h =
    and_from (is_ballot_of voters v.ballot) (is_cut_of agents v.cut) (ballot_passes voters v.ballot h.ballot) (cut_passes agents journals v.cut h.cut)

period_passes : (period : ℕ) → period < most_periods → is_period period ≡ true
period_passes period h = lt-ltb period most_periods h

pub packet_passes : (voters agents : ℕ) (journals : Holding) (p : Packet) → ((agent seq : ℕ) (b : Batch) → held journals agent seq ≡ Some b → agent ≤ agents)
    → IsPacket voters agents journals p → is_packet_of voters agents p ≡ true
packet_passes voters agents journals (CarriesBatch b) in_range h = le-leb b.agent agents (in_range b.agent b.seq b h.1)
packet_passes voters agents journals (Prepare period ballot) in_range h =
    and_from (is_period period) (is_ballot_of voters ballot) (period_passes period h.0) (ballot_passes voters ballot h.1)
packet_passes voters agents journals (Promise from period ballot vote) in_range h =
    and_from (nat_lt from voters && is_period period && is_ballot_of voters ballot) (is_vote_of voters agents vote)
    (and_from (nat_lt from voters && is_period period) (is_ballot_of voters ballot)
    (and_from (nat_lt from voters) (is_period period) (lt-ltb from voters h.0) (period_passes period h.1))
    (ballot_passes voters ballot h.2))
    (vote_passes voters agents journals vote h.3)
packet_passes voters agents journals (Accept period ballot cut) in_range h =
    and_from (is_period period && is_ballot_of voters ballot) (is_cut_of agents cut)
    (and_from (is_period period) (is_ballot_of voters ballot) (period_passes period h.0) (ballot_passes voters ballot h.1))
    (cut_passes agents journals cut h.2)
packet_passes voters agents journals (Accepted from period ballot cut) in_range h =
    and_from (nat_lt from voters && is_period period && is_ballot_of voters ballot) (is_cut_of agents cut)
    (and_from (nat_lt from voters && is_period period) (is_ballot_of voters ballot)
    (and_from (nat_lt from voters) (is_period period) (lt-ltb from voters h.0) (period_passes period h.1))
    (ballot_passes voters ballot h.2))
    (cut_passes agents journals cut h.3)
packet_passes voters agents journals (Decided period cut) in_range h =
    and_from (is_period period) (is_cut_of agents cut) (period_passes period h.0) (cut_passes agents journals cut h.1)
