-- A group whose nodes and agents are processes of their own: what each of them does by itself, from what it keeps and what it is
-- handed. No process counts all packets, so none refuses for a full world.
use Rattle.std.specs.Prelude.{ℕ, ◌+◌, ◌*◌, ◌==◌, ◌&&◌, not, nat_le, nat_lt, Bool, true, false, if◌then◌else◌, List, [], ◌∷◌, length, take, Option, Some, None, Result, Ok, Err, ok_or, slice_get}
use Rattle.std.specs.Option.{is_some}
use Rattle.metering_model.specs.Limits.{most_periods, most_rounds}
use Rattle.metering_model.specs.FirstFailure.{◌>>=◌, holds_or}
use Rattle.metering_model.specs.Batch.{Batch}
use Rattle.metering_model.specs.BatchReading.{is_same}
use Rattle.metering_model.specs.Sheet.{Sheet, Issuer}
use Rattle.metering_model.specs.Cut.{Cut, zero_cut}
use Rattle.metering_model.specs.Holding.{Holding, held, put, placed, records_in_order, up_to}
use Rattle.metering_model.specs.JournalRules.{first_broken, next_seq}
use Rattle.metering_model.specs.Ballot.{Vote, ballot_of}
use Rattle.metering_model.specs.World.{Packet, CarriesBatch, Prepare, Promise, Accept, Accepted, Decided, Kept, Node, World, Offer, Snapshot, current_period, new_kept, opening_with, wake}
use Rattle.metering_model.specs.declared.Refusal.{Refusal}
use Rattle.metering_model.specs.declared.Refusal.TheVariants.{NotClosed, Missing, AllClosed, NoBallot, NoAgent, Observer, WrongSeq}
use Rattle.metering_model.specs.Deliveries.{Handled, handled}
use Rattle.metering_model.specs.KeptText.{KeptAmong, kept_text}
use Rattle.metering_model.specs.Step.{batch_of, cut_before, first_missing, started_node, unless_broken, unless_missing}

-- With what all processes of a group are begun: its name, how many of its nodes vote and how many observe, how many agents there are, and
-- the sheet and the issuer. That two processes were begun alike none of them can see: a packet bears the name alone.
pub record Group : Type 0 where
  pub name : List ℕ
  pub voters : ℕ
  pub observers : ℕ
  pub agents : ℕ
  pub sheet : Sheet
  pub issuer : Issuer

-- a world of the group, for what hangs on its base month, voters and agents alone
abbrev pub bare_world : Group → World
bare_world g = opening_with 0 g.voters g.observers g.agents g.sheet g.issuer

-- ---- what is asked and answered

-- of a node: to take a packet that was sent in the group of a name, to begin a ballot, to export a period, to tell what it keeps, or
-- to send a batch that it holds once more
pub data NodeCommand : Type 0 where
  TakePacket : (name : List ℕ) → Packet → NodeCommand
  BeginBallot : NodeCommand
  ExportPeriod : (period : ℕ) → NodeCommand
  TellKept : NodeCommand
  SendBatch : (agent seq : ℕ) → NodeCommand

-- of an agent: to journal what is offered, to send a batch of its journal once more, or to tell its journal
pub data AgentCommand : Type 0 where
  JournalBatch : Offer → AgentCommand
  SendAgain : (seq : ℕ) → AgentCommand
  TellJournal : AgentCommand

-- Why a process does not do what it is asked: by a word of the model's refusals; since the packet is none of this group; or since a cut
-- goes back, or a batch breaks a rule under this sheet.
pub data ProcessRefusal : Type 0 where
  OfModel : Refusal → ProcessRefusal
  Foreign : ProcessRefusal
  Unfit : ProcessRefusal

pub data Words : Type 0 where
  HasTaken : (learned : Option ℕ) → Words
  HasBegun : (ballot : ℕ) → Words
  HasJournaled : (seq : ℕ) → Words
  HasExported : Snapshot → Words
  -- what is kept has this text
  KeptIs : (text : List ℕ) → Words
  HasSent : Words
  -- a node goes on, in the first period that it has not learned, with so many rounds begun
  NodeWentOn : (period round : ℕ) → Words
  -- an agent goes on, whose next batch has that sequence
  AgentWentOn : (seq : ℕ) → Words
  RefusedFor : ProcessRefusal → Words

-- what is said, and the packet that is sent
pub record Answer : Type 0 where
  pub words : Words
  pub sends : Option Packet

abbrev pub saying : Words → Answer
saying words = record { words = words; sends = None }

abbrev pub refusing : ProcessRefusal → Answer
refusing why = saying (RefusedFor why)

-- a batch that is held is sent once more
abbrev pub sending_held : Holding → (agent seq : ℕ) → Answer
sending_held h agent seq = elim (held h agent seq) [
  | Some b ↦ record { words = HasSent; sends = Some (CarriesBatch b) }
  | None ↦ refusing (OfModel (Missing agent seq))
]

-- ---- packets of the group

-- a ballot that one of the voters begins in one of its rounds
abbrev pub is_ballot_of : (voters ballot : ℕ) → Bool
is_ballot_of voters ballot = nat_le voters ballot && nat_lt ballot ((most_rounds + 1) * voters)

abbrev pub is_cut_of : (agents : ℕ) → Cut → Bool
is_cut_of agents cut = length cut == agents

abbrev pub is_vote_of : (voters agents : ℕ) → Option Vote → Bool
is_vote_of voters agents None = true
is_vote_of voters agents (Some v) = is_ballot_of voters v.ballot && is_cut_of agents v.cut

abbrev pub is_period : ℕ → Bool
is_period period = nat_lt period most_periods

-- Its numbers are those of a group of so many voters and agents. Of a cut's entries, and of a batch, nothing else is asked: who reads a text
-- has asked it.
abbrev pub is_packet_of : (voters agents : ℕ) → Packet → Bool
is_packet_of voters agents (CarriesBatch b) = nat_le b.agent agents
is_packet_of voters agents (Prepare period ballot) = is_period period && is_ballot_of voters ballot
is_packet_of voters agents (Promise from period ballot vote) =
    nat_lt from voters && is_period period && is_ballot_of voters ballot && is_vote_of voters agents vote
is_packet_of voters agents (Accept period ballot cut) = is_period period && is_ballot_of voters ballot && is_cut_of agents cut
is_packet_of voters agents (Accepted from period ballot cut) =
    nat_lt from voters && is_period period && is_ballot_of voters ballot && is_cut_of agents cut
is_packet_of voters agents (Decided period cut) = is_period period && is_cut_of agents cut

abbrev pub is_of_group : Group → (name : List ℕ) → Packet → Bool
is_of_group g name p = is_same name g.name && is_packet_of g.voters g.agents p

-- ---- a node

pub record NodeDone : Type 0 where
  pub answer : Answer
  pub node : Node

-- nothing changes
abbrev pub unmoved : Answer → Node → NodeDone
unmoved answer n = record { answer = answer; node = n }

abbrev pub after_handling : Handled → NodeDone
after_handling h = record { answer = record { words = HasTaken h.learns; sends = h.sends }; node = h.node }

abbrev pub taking : Group → ℕ → Node → (name : List ℕ) → Packet → NodeDone
taking g i n name p = if is_of_group g name p then after_handling (handled (bare_world g) i n p) else unmoved (refusing Foreign) n

-- the ballot that node i begins next, or why it begins none
abbrev pub next_ballot : Group → ℕ → Node → Result ℕ Refusal
next_ballot g i n = do
  _ ← holds_or (nat_lt i g.voters) Observer
  _ ← holds_or (is_period (current_period n)) AllClosed
  _ ← holds_or (nat_lt n.kept.round most_rounds) NoBallot
  Ok (ballot_of (n.kept.round + 1) i g.voters)

abbrev pub beginning : Group → ℕ → Node → NodeDone
beginning g i n = elim (next_ballot g i n) [
  | Ok ballot ↦ record { answer = record { words = HasBegun ballot; sends = Some (Prepare (current_period n) ballot) }; node = started_node g.voters ballot n }
  | Err why ↦ unmoved (refusing (OfModel why)) n
]

-- what the file of a period is made of at a node that has learned it and has each batch up to its cut
abbrev pub snapshot_by : Group → Node → ℕ → Result Snapshot Refusal
snapshot_by g n p = do
  to ← ok_or (slice_get n.kept.learned p) (NotClosed (current_period n))
  _ ← unless_missing (first_missing n.kept.holding to)
  Ok (record { period = p; from = cut_before g.agents n.kept.learned p; to = to; batches = up_to to n.kept.holding; sheet = g.sheet; issuer = g.issuer })

abbrev pub is_at_least : Cut → Cut → Bool
is_at_least [] [] = true
is_at_least [] (b ∷ other) = false
is_at_least (a ∷ cut) [] = false
is_at_least (a ∷ cut) (b ∷ other) = nat_le b a && is_at_least cut other

-- each of these cuts is at or above the one before it
abbrev pub are_growing : (before : Cut) → List Cut → Bool
are_growing before [] = true
are_growing before (cut ∷ cuts) = is_at_least cut before && are_growing cut cuts

-- no batch of it breaks a rule of the journals
abbrev pub is_unbroken : Snapshot → Bool
is_unbroken s = not (is_some (first_broken s.sheet s.batches (records_in_order s.batches)))

-- The cuts that the node has learned up to the period grow, and no batch up to its cut breaks a rule. Where all that a group's processes are
-- handed was sent by one of them, that is always so.
abbrev pub is_fit : Group → Node → Snapshot → Bool
is_fit g n s = are_growing (zero_cut g.agents) (take (s.period + 1) n.kept.learned) && is_unbroken s

abbrev pub exporting : Group → Node → ℕ → Answer
exporting g n p = elim (snapshot_by g n p) [
  | Ok s ↦ if is_fit g n s then saying (HasExported s) else refusing Unfit
  | Err why ↦ refusing (OfModel why)
]

-- what a node keeps, among its group's agents
abbrev pub kept_among : Group → Kept → KeptAmong
kept_among g kept = record { agents = g.agents; kept = kept }

-- node i of the group by itself
abbrev pub node_does : Group → ℕ → Node → NodeCommand → NodeDone
node_does g i n (TakePacket name p) = taking g i n name p
node_does g i n BeginBallot = beginning g i n
node_does g i n (ExportPeriod p) = unmoved (exporting g n p) n
node_does g i n TellKept = unmoved (saying (KeptIs (kept_text (kept_among g n.kept)))) n
node_does g i n (SendBatch agent seq) = unmoved (sending_held n.kept.holding agent seq) n

-- a node that goes on with what was stored, or begins, where nothing was
abbrev pub node_goes_on : (stored : Kept) → NodeDone
node_goes_on stored = unmoved (saying (NodeWentOn (length stored.learned) stored.round)) (wake stored)

-- ---- an agent

pub record AgentDone : Type 0 where
  pub answer : Answer
  pub journal : Holding

abbrev pub unmoved_journal : Answer → Holding → AgentDone
unmoved_journal answer journal = record { answer = answer; journal = journal }

-- why agent a does not journal a batch: it is of another agent, is not its next one, or breaks a rule
abbrev pub journal_refusal : Group → ℕ → Holding → Batch → Result (Unit {0}) Refusal
journal_refusal g a journal b = do
  _ ← holds_or (b.agent == a) NoAgent
  _ ← holds_or (b.seq == next_seq journal a) (WrongSeq (next_seq journal a))
  unless_broken (first_broken g.sheet (put journal b) (placed b))

-- the batch that is journaled, of what is offered
abbrev pub batch_to_journal : Group → ℕ → Holding → Offer → Result Batch Refusal
batch_to_journal g a journal offer = do
  b ← batch_of offer
  _ ← journal_refusal g a journal b
  Ok b

abbrev pub journaling : Group → ℕ → Holding → Offer → AgentDone
journaling g a journal offer = elim (batch_to_journal g a journal offer) [
  | Ok b ↦ record { answer = record { words = HasJournaled b.seq; sends = Some (CarriesBatch b) }; journal = put journal b }
  | Err why ↦ unmoved_journal (refusing (OfModel why)) journal
]

-- what an agent keeps is its journal, in the form of what a node keeps
abbrev pub journal_kept : Holding → Kept
journal_kept journal = record new_kept { holding = journal }

-- agent a of the group by itself
abbrev pub agent_does : Group → ℕ → Holding → AgentCommand → AgentDone
agent_does g a journal (JournalBatch offer) = journaling g a journal offer
agent_does g a journal (SendAgain seq) = unmoved_journal (sending_held journal a seq) journal
agent_does g a journal TellJournal = unmoved_journal (saying (KeptIs (kept_text (kept_among g (journal_kept journal))))) journal

abbrev pub agent_goes_on : ℕ → (stored : Holding) → AgentDone
agent_goes_on a stored = unmoved_journal (saying (AgentWentOn (next_seq stored a))) stored
