-- What a packet of the group is among its voters and agents.
use Rattle.std.proofs.Common.{◌≡◌, ℕ, ◌*◌, ◌≤◌, ◌&&◌, List, true, length, arith, nat_le, nat_lt}
use Rattle.std.proofs.lemmas.Bool.{and_parts, eqb-true, leb-true, ltb-true}
use Rattle.metering_model.specs.Dates.{IsPeriod}
use Rattle.metering_model.specs.KeptText.{IsBallotNumber}
use Rattle.metering_model.specs.World.{Packet, CarriesBatch, Prepare, Promise, Accept, Accepted, Decided}
use Rattle.process_laws.specs.LocalSteps.{is_ballot_of, is_cut_of, is_packet_of, is_period, is_vote_of}
use Rattle.group_node.specs.Packets.{IsPacketAmong}

pub ballot_number : (voters ballot : ℕ) → 1 ≤ voters → voters ≤ 99 → is_ballot_of voters ballot ≡ true → IsBallotNumber ballot
ballot_number voters ballot some few is =
    let parts = and_parts (nat_le voters ballot) (nat_lt ballot (10_001 * voters)) is in
    let low = leb-true voters ballot parts.0 in
    let high = ltb-true ballot (10_001 * voters) parts.1 in
    let most : 10_001 * voters ≤ 10_001 * 99 = omega arith in
    (omega (arith, low), omega (arith, high, most))

pub period_of : (period : ℕ) → is_period period ≡ true → IsPeriod period
period_of period is = ltb-true period 1_200 is

-- what is asked of a packet that tells a period, a ballot and a cut
pub voted : (voters agents period ballot : ℕ) (cut : List ℕ) → (is_period period && is_ballot_of voters ballot && is_cut_of agents cut) ≡ true
    → (is_period period ≡ true) × (is_ballot_of voters ballot ≡ true) × (length cut ≡ agents)
voted voters agents period ballot cut is =
    let first = and_parts (is_period period && is_ballot_of voters ballot) (is_cut_of agents cut) is in
    let both = and_parts (is_period period) (is_ballot_of voters ballot) first.0 in
    (both.0, both.1, eqb-true (length cut) agents first.1)

-- and who sent it
pub voted_from : (voters agents from period ballot : ℕ) (cut : List ℕ) → (nat_lt from voters && is_period period && is_ballot_of voters ballot && is_cut_of agents cut) ≡ true
    → (nat_lt from voters ≡ true) × (is_period period ≡ true) × (is_ballot_of voters ballot ≡ true) × (length cut ≡ agents)
voted_from voters agents from period ballot cut is =
    let first = and_parts (nat_lt from voters && is_period period && is_ballot_of voters ballot) (is_cut_of agents cut) is in
    let second = and_parts (nat_lt from voters && is_period period) (is_ballot_of voters ballot) first.0 in
    let third = and_parts (nat_lt from voters) (is_period period) second.0 in
    (third.0, third.1, second.1, eqb-true (length cut) agents first.1)

pub packet_among : (voters agents : ℕ) (p : Packet) → 1 ≤ voters → voters ≤ 99 → is_packet_of voters agents p ≡ true → IsPacketAmong voters agents p
packet_among voters agents (CarriesBatch b) some few is = leb-true b.agent agents is
packet_among voters agents (Prepare period ballot) some few is = ballot_number voters ballot some few (and_parts (is_period period) (is_ballot_of voters ballot) is).1
packet_among voters agents (Promise from period ballot vote) some few is =
    let first = and_parts (nat_lt from voters && is_period period && is_ballot_of voters ballot) (is_vote_of voters agents vote) is in
    let second = and_parts (nat_lt from voters && is_period period) (is_ballot_of voters ballot) first.0 in
    ltb-true from voters (and_parts (nat_lt from voters) (is_period period) second.0).0
packet_among voters agents (Accept period ballot cut) some few is = let parts = voted voters agents period ballot cut is in (ballot_number voters ballot some few parts.1, parts.2)
packet_among voters agents (Accepted from period ballot cut) some few is = let parts = voted_from voters agents from period ballot cut is in (ltb-true from voters parts.0, parts.3)
packet_among voters agents (Decided period cut) some few is = eqb-true (length cut) agents (and_parts (is_period period) (is_cut_of agents cut) is).1
