-- What a run sends may be written: the numbers of each packet are within the limits of texts.
use Rattle.std.proofs.Common.{ℕ, suc, ◌≤◌, List, [], ◌∷◌, All, Option, Some, None, sym, subst, arith}
use Rattle.std.specs.Prelude.{slice_index, true, ◌≡◌}
use Rattle.std.proofs.lemmas.List.Elements.{All-nil, All-cons, All-weaker}
use Rattle.metering_model.specs.Sheet.{Sheet, Issuer}
use Rattle.metering_model.specs.Cut.{Cut}
use Rattle.metering_model.specs.Holding.{Holding}
use Rattle.metering_model.specs.Ballot.{Vote}
use Rattle.metering_model.specs.World.{World, Packet, CarriesBatch, Prepare, Promise, Accept, Accepted, Decided, Event, opening_with, voter_count}
use Rattle.metering_model.specs.Step.{play}
use Rattle.group_laws.specs.EveryRun.{IsJournaledCut, IsPacket, KeepsLimits, MayBeVote}
use Rattle.group_laws.proofs.Limits.{keeps_limits}
use Rattle.group_node.proofs.Among.{ballot_number}
use Rattle.packet_text.specs.PacketText.{HasPacketText, IsSent, IsSentCut, IsSentVote, is_group}
use Rattle.packet_text.proofs.SentNumbers.{IsLow}

each_low : (cut : Cut) → ((i : ℕ) → slice_index cut i ≤ 1_000_000) → All IsLow cut
each_low [] low = All-nil IsLow
each_low (x ∷ xs) low = All-cons IsLow x xs (low 0) (each_low xs (λ i. low (suc i)))

-- packets of a group of so many voters and agents
module _ (voters agents : ℕ) (journals : Holding) (few : voters ≤ 99) (some : 1 ≤ agents) (most : agents ≤ 64) where
  cut_sent : (cut : Cut) → IsJournaledCut agents journals cut → IsSentCut cut
  cut_sent cut is =
      let size = is.size in
      record { agents = (omega (arith, size, some), omega (arith, size, most)); low = each_low cut (λ i. is.low (suc i)) }

  vote_sent : (vote : Option Vote) → MayBeVote voters agents journals vote → IsSentVote vote
  vote_sent None is = tt
  vote_sent (Some v) is = (ballot_number voters v.ballot few is.ballot, cut_sent v.cut is.cut)

  node_sent : (from : ℕ) → suc from ≤ voters → from ≤ 98
  node_sent from is = omega (arith, is, few)

  packet_sent : (q : Packet) → IsPacket voters agents journals q → IsSent q
  packet_sent (CarriesBatch b) is = is.0
  packet_sent (Prepare period ballot) is = (is.0, ballot_number voters ballot few is.1)
  packet_sent (Promise from period ballot vote) is = (node_sent from is.0, is.1, ballot_number voters ballot few is.2, vote_sent vote is.3)
  packet_sent (Accept period ballot cut) is = (is.0, ballot_number voters ballot few is.1, cut_sent cut is.2)
  packet_sent (Accepted from period ballot cut) is = (node_sent from is.0, is.1, ballot_number voters ballot few is.2, cut_sent cut is.3)
  packet_sent (Decided period cut) is = (is.0, cut_sent cut is.1)

-- those of a world that keeps its limits
world_sent : (room voters observers agents : ℕ) (w : World) → voters ≤ 99 → 1 ≤ agents → agents ≤ 64 → KeepsLimits room voters observers agents w → All IsSent w.packets
world_sent room voters observers agents w few some most keeps =
    let fewer = subst (λ n. n ≤ 99) (sym keeps.voters_kept) few in
    let there = subst (λ n. 1 ≤ n) (sym keeps.agents_kept) some in
    let within = subst (λ n. n ≤ 64) (sym keeps.agents_kept) most in
    All-weaker (IsPacket (voter_count w) w.agents w.journals) IsSent (packet_sent (voter_count w) w.agents w.journals fewer there within) w.packets keeps.each_packet

module _ (room voters observers agents : ℕ) (sheet : Sheet) (issuer : Issuer) (events : List Event) where
  pub run_sent : voters ≤ 99 → 1 ≤ agents → agents ≤ 64 → All IsSent (play (opening_with room voters observers agents sheet issuer) events).1.packets
  run_sent few some most =
      world_sent room voters observers agents (play (opening_with room voters observers agents sheet issuer) events).1 few some most (keeps_limits room voters observers agents sheet issuer events)

  -- in a group of whatever name
  pub run_written : (group : List ℕ) → is_group group ≡ true → voters ≤ 99 → 1 ≤ agents → agents ≤ 64 → All (HasPacketText group) (play (opening_with room voters observers agents sheet issuer) events).1.packets
  run_written group name few some most =
      All-weaker IsSent (HasPacketText group) (λ q is. record { group = name; packet = is }) (play (opening_with room voters observers agents sheet issuer) events).1.packets (run_sent few some most)
