-- A history of two voters, one observer and two agents: what is refused, what is lost where a node is stopped, and how an observer that is behind
-- comes to the same file.
use Rattle.std.specs.Prelude.{◌≡◌, ℕ, List, [], ◌∷◌, ◌++◌, Some, None, pos, codes, refl}
use Rattle.std.specs.Fmt.{digits}
use Rattle.std.proofs.Math.Dec.{lit<, lit≤}
use Rattle.std.proofs.lemmas.Bool.{both_ways}
use Rattle.jiff_core.specs.Calendar.{days_from_civil, day_count, days_of_years, days_of_months}
use Rattle.metering_model.specs.NumberText.{worth_of, decimals_of}
use Rattle.metering_model.specs.Batch.{Batch, Record, Reads}
use Rattle.metering_model.specs.declared.Kind.TheVariants.{Credit}
use Rattle.metering_model.specs.declared.Version.TheVariants.{B1}
use Rattle.metering_model.specs.declared.Refusal.TheVariants.{Missing, NoAgent, Observer, WrongSeq}
use Rattle.metering_model.specs.Cut.{Cut}
use Rattle.metering_model.specs.World.{Packet, CarriesBatch, Prepare, Promise, Accept, Accepted, Decided, Kept, Good, Snapshot}
use Rattle.metering_model.proofs.Samples.{sheet_0, issuer_1}
use Rattle.process_laws.specs.LocalSteps.{Group, TakePacket, BeginBallot, ExportPeriod, SendBatch, JournalBatch, OfModel, Foreign, HasTaken, HasBegun, HasJournaled, HasExported, HasSent, NodeWentOn, AgentWentOn, Answer, Words, saying, refusing}
use Rattle.process_laws.specs.Histories.{Act, NodeDoes, NodeGoesOn, AgentDoes, AgentGoesOn, begun, answers, after, IsHistory, IsDoneByWorld}
use Rattle.process_laws.proofs.EachAct.{◌⨾◌}
use Rattle.process_laws.proofs.DoneByWorld.{is_done_by_world}

abbrev name : List ℕ
name = codes "three"

-- nodes 0 and 1 vote, and node 2 observes
abbrev pub three : Group
three = record { name = name; voters = 2; observers = 1; agents = 2; sheet = sheet_0; issuer = issuer_1 }

-- ---- two batches, each of one credit, which is charged without a price

abbrev credit_text : List ℕ
credit_text = codes "C|2025-01-01T00:00:00Z|2025-01-01T01:00:00Z|||Launch credit|5||\n"

abbrev credit : Record
credit = Reads (record {
  kind = Credit;
  start = pos 1_735_689_600;
  end = pos 1_735_693_200;
  start_text = codes "2025-01-01T00:00:00Z";
  end_text = codes "2025-01-01T01:00:00Z";
  account = [];
  resource = [];
  key = codes "Launch credit";
  value = pos 5_000_000;
  commitment = [];
  tags = [];
  region = None;
})

abbrev pub text_of_1 : List ℕ
text_of_1 = codes "B1|1|1|1\n" ++ credit_text

abbrev pub text_of_2 : List ℕ
text_of_2 = codes "B1|2|1|1\n" ++ credit_text

abbrev pub batch_of_1 : Batch
batch_of_1 = record { version = B1; agent = 1; seq = 1; records = credit ∷ [] }

abbrev pub batch_of_2 : Batch
batch_of_2 = record { version = B1; agent = 2; seq = 1; records = credit ∷ [] }

abbrev cut : Cut
cut = 1 ∷ 1 ∷ []

-- ---- what is done

abbrev takes : ℕ → Packet → Act
takes i p = NodeDoes i (TakePacket name p)

abbrev and_sends : Words → Packet → Answer
and_sends words p = record { words = words; sends = Some p }

-- Each agent journals a batch. Agent 1 is also offered its own a second time, and that of the other agent.
abbrev journaled : List Act
journaled =
    AgentGoesOn 1 [] ∷ AgentDoes 1 (JournalBatch (Good text_of_1)) ∷ AgentGoesOn 1 (batch_of_1 ∷ []) ∷ AgentDoes 1 (JournalBatch (Good text_of_1))
    ∷ AgentDoes 1 (JournalBatch (Good text_of_2)) ∷ AgentDoes 2 (JournalBatch (Good text_of_2)) ∷ []

journaled_answers : answers three (begun three) journaled ≡
    saying (AgentWentOn 1) ∷ and_sends (HasJournaled 1) (CarriesBatch batch_of_1) ∷ saying (AgentWentOn 2) ∷ refusing (OfModel (WrongSeq 2))
    ∷ refusing (OfModel NoAgent) ∷ and_sends (HasJournaled 1) (CarriesBatch batch_of_2) ∷ []
unfolding days_from_civil day_count days_of_years days_of_months worth_of decimals_of digits
journaled_answers = refl

-- what node 0 stored last before it is stopped
abbrev stored : Kept
stored = record { round = 1; learned = []; acceptor = record { promised = Some 2; vote = None }; holding = batch_of_1 ∷ batch_of_2 ∷ [] }

-- Node 0 begins a ballot, and promises it itself. That promise is taken twice, and counts once, so nothing is proposed. Then the node is
-- stopped, and goes on: the promise of node 1 comes too late for what it has forgotten.
abbrev stopped : List Act
stopped =
    takes 0 (CarriesBatch batch_of_1) ∷ takes 0 (CarriesBatch batch_of_2) ∷ takes 2 (CarriesBatch batch_of_1) ∷ NodeDoes 0 BeginBallot
    ∷ takes 0 (Prepare 0 2) ∷ takes 1 (Prepare 0 2) ∷ takes 0 (Promise 0 0 2 None) ∷ takes 0 (Promise 0 0 2 None) ∷ NodeGoesOn 0 stored
    ∷ takes 0 (Promise 1 0 2 None) ∷ []

stopped_answers : answers three (after three (begun three) journaled) stopped ≡
    saying (HasTaken None) ∷ saying (HasTaken None) ∷ saying (HasTaken None) ∷ and_sends (HasBegun 2) (Prepare 0 2)
    ∷ and_sends (HasTaken None) (Promise 0 0 2 None) ∷ and_sends (HasTaken None) (Promise 1 0 2 None) ∷ saying (HasTaken None) ∷ saying (HasTaken None)
    ∷ saying (NodeWentOn 0 1) ∷ saying (HasTaken None) ∷ []
unfolding days_from_civil day_count days_of_years days_of_months worth_of decimals_of digits
stopped_answers = refl

-- Node 0 begins again, with its next round, and proposes how far the batches that it holds can be closed. A cut of one agent is none of a group of
-- two, though it comes in the group's name.
abbrev chosen : List Act
chosen =
    NodeDoes 2 BeginBallot ∷ NodeDoes 0 BeginBallot ∷ takes 0 (Prepare 0 4) ∷ takes 1 (Prepare 0 4) ∷ takes 0 (Promise 0 0 4 None)
    ∷ takes 0 (Promise 1 0 4 None) ∷ takes 0 (Decided 0 (9 ∷ [])) ∷ takes 0 (Accept 0 4 cut) ∷ takes 1 (Accept 0 4 cut) ∷ []

chosen_answers : answers three (after three (begun three) (journaled ++ stopped)) chosen ≡
    refusing (OfModel Observer) ∷ and_sends (HasBegun 4) (Prepare 0 4) ∷ and_sends (HasTaken None) (Promise 0 0 4 None)
    ∷ and_sends (HasTaken None) (Promise 1 0 4 None) ∷ saying (HasTaken None) ∷ and_sends (HasTaken None) (Accept 0 4 cut) ∷ refusing Foreign
    ∷ and_sends (HasTaken None) (Accepted 0 0 4 cut) ∷ and_sends (HasTaken None) (Accepted 1 0 4 cut) ∷ []
unfolding days_from_civil day_count days_of_years days_of_months worth_of decimals_of digits
chosen_answers = refl

abbrev exported : Snapshot
exported = record { period = 0; from = 0 ∷ 0 ∷ []; to = cut; batches = batch_of_1 ∷ batch_of_2 ∷ []; sheet = sheet_0; issuer = issuer_1 }

-- The observer learns the cut by two that accepted, and lacks a batch, which node 0 sends once more. Then both export the same.
abbrev in_two_files : List Act
in_two_files =
    takes 2 (Accepted 0 0 4 cut) ∷ takes 2 (Accepted 1 0 4 cut) ∷ NodeDoes 2 (ExportPeriod 0) ∷ NodeDoes 0 (SendBatch 2 1)
    ∷ takes 2 (CarriesBatch batch_of_2) ∷ NodeDoes 2 (ExportPeriod 0) ∷ takes 0 (Accepted 0 0 4 cut) ∷ takes 0 (Accepted 1 0 4 cut)
    ∷ NodeDoes 0 (ExportPeriod 0) ∷ []

in_two_files_answers : answers three (after three (begun three) (journaled ++ stopped ++ chosen)) in_two_files ≡
    saying (HasTaken None) ∷ saying (HasTaken (Some 0)) ∷ refusing (OfModel (Missing 2 1)) ∷ and_sends HasSent (CarriesBatch batch_of_2)
    ∷ saying (HasTaken None) ∷ saying (HasExported exported) ∷ saying (HasTaken None) ∷ saying (HasTaken (Some 0))
    ∷ saying (HasExported exported) ∷ []
unfolding days_from_civil day_count days_of_years days_of_months worth_of decimals_of digits
in_two_files_answers = refl

-- ---- it is a history

abbrev pub acts : List Act
acts = journaled ++ stopped ++ chosen ++ in_two_files

-- all that was sent, the batch of agent 2 twice
abbrev pub all_sent : List Packet
all_sent =
    CarriesBatch batch_of_1 ∷ CarriesBatch batch_of_2 ∷ Prepare 0 2 ∷ Promise 0 0 2 None ∷ Promise 1 0 2 None ∷ Prepare 0 4 ∷ Promise 0 0 4 None
    ∷ Promise 1 0 4 None ∷ Accept 0 4 cut ∷ Accepted 0 0 4 cut ∷ Accepted 1 0 4 cut ∷ CarriesBatch batch_of_2 ∷ []

sent : (after three (begun three) acts).sent ≡ all_sent
unfolding days_from_civil day_count days_of_years days_of_months worth_of decimals_of digits
sent = refl

is_history : IsHistory three (begun three) acts
unfolding days_from_civil day_count days_of_years days_of_months worth_of decimals_of digits
is_history =
    (lit≤ tt, lit≤ tt, refl) ⨾
    (lit≤ tt, lit≤ tt) ⨾
    (lit≤ tt, lit≤ tt, refl) ⨾
    (lit≤ tt, lit≤ tt) ⨾
    (lit≤ tt, lit≤ tt) ⨾
    (lit≤ tt, lit≤ tt) ⨾
    (lit< tt, λ same. (0, lit< tt, refl)) ⨾
    (lit< tt, λ same. (1, lit< tt, refl)) ⨾
    (lit< tt, λ same. (0, lit< tt, refl)) ⨾
    (lit< tt, tt) ⨾
    (lit< tt, λ same. (2, lit< tt, refl)) ⨾
    (lit< tt, λ same. (2, lit< tt, refl)) ⨾
    (lit< tt, λ same. (3, lit< tt, refl)) ⨾
    (lit< tt, λ same. (3, lit< tt, refl)) ⨾
    (_, refl, refl) ⨾
    (lit< tt, λ same. (4, lit< tt, refl)) ⨾
    (lit< tt, tt) ⨾
    (lit< tt, tt) ⨾
    (lit< tt, λ same. (5, lit< tt, refl)) ⨾
    (lit< tt, λ same. (5, lit< tt, refl)) ⨾
    (lit< tt, λ same. (6, lit< tt, refl)) ⨾
    (lit< tt, λ same. (7, lit< tt, refl)) ⨾
    (lit< tt, λ same. absurd (both_ways _ refl same)) ⨾
    (lit< tt, λ same. (8, lit< tt, refl)) ⨾
    (lit< tt, λ same. (8, lit< tt, refl)) ⨾
    (lit< tt, λ same. (9, lit< tt, refl)) ⨾
    (lit< tt, λ same. (10, lit< tt, refl)) ⨾
    (lit< tt, tt) ⨾
    (lit< tt, tt) ⨾
    (lit< tt, λ same. (1, lit< tt, refl)) ⨾
    (lit< tt, tt) ⨾
    (lit< tt, λ same. (9, lit< tt, refl)) ⨾
    (lit< tt, λ same. (10, lit< tt, refl)) ⨾
    (lit< tt, tt) ⨾ tt

so_a_world_does_it : IsDoneByWorld three acts
so_a_world_does_it = is_done_by_world three acts is_history
