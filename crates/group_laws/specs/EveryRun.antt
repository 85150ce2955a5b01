-- What every run keeps, which the bodies of a group rest on: lengths, limits, and batches that are the journals'.
use Rattle.std.specs.Prelude.{◌≡◌, ℕ, ◌+◌, ◌*◌, ◌<◌, ◌≤◌, true, length, All, Some, None, Option, slice_get}
use Rattle.std.specs.Option.{is_some}
use Rattle.metering_model.specs.Limits.{last_sequence, most_periods, most_rounds}
use Rattle.metering_model.specs.Batch.{Batch, IsWellFormed}
use Rattle.metering_model.specs.Cut.{Cut, IsGrowing, last_of}
use Rattle.metering_model.specs.Holding.{Holding, IsHolding, IsPartOf, AgreeUpTo, held}
use Rattle.metering_model.specs.JournalRules.{MeetsJournalRules}
use Rattle.metering_model.specs.Ballot.{Vote, Attempt, Nodes, ballot_of, new_acceptor}
use Rattle.metering_model.specs.World.{World, Node, Packet, CarriesBatch, Prepare, Promise, Accept, Accepted, Decided, node_count, voter_count}
use Rattle.metering_model.specs.Step.{first_missing}

-- the ballot of one of the voters in one of its rounds
pub record IsBallot (voters ballot : ℕ) : Type 0 where
  pub round : ℕ
  pub node : ℕ
  pub round_in : (1 ≤ round) × (round ≤ most_rounds)
  pub votes : node < voters
  pub is : ballot ≡ ballot_of round node voters
  pub low : ballot < (most_rounds + 1) * voters

-- A sequence for each agent, up to which the journals have every batch.
pub record IsJournaledCut (agents : ℕ) (journals : Holding) (cut : Cut) : Type 0 where
  pub size : length cut ≡ agents
  pub journaled : (agent seq : ℕ) → 0 < seq → seq ≤ last_of cut agent → is_some (held journals agent seq) ≡ true
  pub low : (agent : ℕ) → last_of cut agent ≤ last_sequence

pub record IsVote (voters agents : ℕ) (journals : Holding) (v : Vote) : Type 0 where
  pub ballot : IsBallot voters v.ballot
  pub cut : IsJournaledCut agents journals v.cut

-- no vote, or one
abbrev pub MayBeVote : ℕ → ℕ → Holding → Option Vote → Type 0
MayBeVote voters agents journals None = Unit {0}
MayBeVote voters agents journals (Some v) = IsVote voters agents journals v

-- A packet carries a batch of the journals, or speaks of a period, and where they stand in it of a voter, a ballot and a cut.
abbrev pub IsPacket : ℕ → ℕ → Holding → Packet → Type 0
IsPacket voters agents journals (CarriesBatch b) = IsWellFormed b × (held journals b.agent b.seq ≡ Some b)
IsPacket voters agents journals (Prepare period ballot) = (period < most_periods) × IsBallot voters ballot
IsPacket voters agents journals (Promise from period ballot vote) =
    (from < voters) × (period < most_periods) × IsBallot voters ballot × MayBeVote voters agents journals vote
IsPacket voters agents journals (Accept period ballot cut) = (period < most_periods) × IsBallot voters ballot × IsJournaledCut agents journals cut
IsPacket voters agents journals (Accepted from period ballot cut) =
    (from < voters) × (period < most_periods) × IsBallot voters ballot × IsJournaledCut agents journals cut
IsPacket voters agents journals (Decided period cut) = (period < most_periods) × IsJournaledCut agents journals cut

-- a mark for each voter
abbrev pub IsSet : ℕ → Nodes → Type 0
IsSet voters set = length set ≡ voters

-- who accepted at a ballot
abbrev pub IsEntry : ℕ → ℕ × Nodes → Type 0
IsEntry voters e = IsBallot voters e.0 × IsSet voters e.1

pub record IsAttempt (voters agents : ℕ) (journals : Holding) (a : Attempt) : Type 0 where
  pub ballot : IsBallot voters a.ballot
  pub promising : IsSet voters a.promising
  pub told : MayBeVote voters agents journals a.told

-- What a node has. Where no batch up to a learned cut is missing, it has the journals' batches up to that cut.
pub record IsNode (voters agents : ℕ) (journals : Holding) (n : Node) : Type 0 where
  pub round : n.kept.round ≤ most_rounds
  pub periods : length n.kept.learned ≤ most_periods
  pub learned : All (IsJournaledCut agents journals) n.kept.learned
  pub growing : IsGrowing agents n.kept.learned
  pub promised : (ballot : ℕ) → n.kept.acceptor.promised ≡ Some ballot → IsBallot voters ballot
  pub vote : MayBeVote voters agents journals n.kept.acceptor.vote
  pub is_holding : IsHolding n.kept.holding
  pub part : IsPartOf n.kept.holding journals
  pub attempt : (a : Attempt) → n.attempt ≡ Some a → IsAttempt voters agents journals a
  pub tally : All (IsEntry voters) n.tally
  pub whole : (period : ℕ) (cut : Cut) → slice_get n.kept.learned period ≡ Some cut → first_missing n.kept.holding cut ≡ None → AgreeUpTo cut n.kept.holding journals

-- a node that neither proposes nor votes
pub record IsObserver (n : Node) : Type 0 where
  pub round : n.kept.round ≡ 0
  pub acceptor : n.kept.acceptor ≡ new_acceptor
  pub attempt : n.attempt ≡ None

-- What holds of the world after every run.
pub record KeepsLimits (room voters observers agents : ℕ) (w : World) : Type 0 where
  pub nodes_kept : node_count w ≡ voters + observers
  pub voters_kept : voter_count w ≡ voters
  pub agents_kept : w.agents ≡ agents
  pub rules : MeetsJournalRules w.sheet w.journals
  pub in_range : (agent seq : ℕ) (b : Batch) → held w.journals agent seq ≡ Some b → agent ≤ w.agents
  pub room_kept : w.room ≡ room
  pub fits : length w.packets ≤ room
  pub each_packet : All (IsPacket (voter_count w) w.agents w.journals) w.packets
  pub each_node : All (IsNode (voter_count w) w.agents w.journals) w.nodes
  pub each_observer : (node : ℕ) (n : Node) → voter_count w ≤ node → slice_get w.nodes node ≡ Some n → IsObserver n
