-- A history of one agent and one node, which is stopped and gone on with in the middle: each answer is computed, and the law holds of it.
use Rattle.std.proofs.Common.{sym, subst, inl}
use Rattle.std.specs.Prelude.{◌≡◌, ℕ, true, List, [], ◌∷◌, Option, Some, None, codes, refl}
use Rattle.std.specs.Fmt.{digits}
use Rattle.std.proofs.Math.Dec.{lit<, lit≤}
use Rattle.std.proofs.lemmas.Bool.{both_ways}
use Rattle.jiff_core.specs.Calendar.{days_from_civil, day_count, days_of_years, days_of_months}
use Rattle.metering_model.specs.NumberText.{worth_of, decimals_of}
use Rattle.metering_model.specs.Batch.{Batch}
use Rattle.metering_model.specs.BatchReading.{is_same}
use Rattle.metering_model.specs.declared.Version.TheVariants.{B1}
use Rattle.metering_model.specs.declared.Refusal.TheVariants.{NotClosed}
use Rattle.metering_model.specs.Cut.{Cut}
use Rattle.metering_model.specs.World.{Packet, CarriesBatch, Prepare, Promise, Accept, Accepted, Decided, Kept, Event, Journal, Deliver, Start, Restart, Export, Keep, Good, Snapshot}
use Rattle.metering_model.proofs.Samples.{sheet_0, issuer_1}
use Rattle.process_laws.specs.LocalSteps.{Group, TakePacket, BeginBallot, ExportPeriod, TellKept, SendBatch, JournalBatch, SendAgain, TellJournal, OfModel, Foreign, HasTaken, HasBegun, HasJournaled, HasExported, KeptIs, HasSent, NodeWentOn, AgentWentOn, Answer, Words, saying, refusing}
use Rattle.process_laws.specs.Histories.{Act, NodeDoes, NodeGoesOn, AgentDoes, AgentGoesOn, begun, answers, after, IsHistory, AreMatched, opened, IsDoneByWorld}
use Rattle.process_laws.proofs.EachAct.{◌⨾◌, AreMatchedEach, so_are_matched}
use Rattle.process_laws.proofs.DoneByWorld.{is_done_by_world}

abbrev name : List ℕ
name = codes "one"

-- a group of one node and one agent
abbrev one : Group
one = record { name = name; voters = 1; observers = 0; agents = 1; sheet = sheet_0; issuer = issuer_1 }

abbrev b : Batch
b = record { version = B1; agent = 1; seq = 1; records = [] }

abbrev cut : Cut
cut = 1 ∷ []

-- the node is handed a packet of its own group
abbrev takes : Packet → Act
takes p = NodeDoes 0 (TakePacket name p)

-- what the node stored last, before it is stopped: the round that it began, the ballot that it promised, and the batch
abbrev stored : Kept
stored = record { round = 1; learned = []; acceptor = record { promised = Some 1; vote = None }; holding = b ∷ [] }

-- The agent's batch comes to the node, which begins a ballot, and hears its own packets. It goes on after it has proposed, and so has
-- forgotten that; but what it promised it keeps, and so it accepts, and learns the cut.
abbrev acts : List Act
acts =
    AgentDoes 1 (JournalBatch (Good (codes "B1|1|1|0\n"))) ∷ takes (CarriesBatch b) ∷ NodeDoes 0 BeginBallot ∷ takes (Prepare 0 1)
    ∷ takes (Promise 0 0 1 None) ∷ NodeDoes 0 (TakePacket (codes "two") (Decided 0 (9 ∷ []))) ∷ NodeDoes 0 TellKept ∷ NodeGoesOn 0 stored
    ∷ NodeDoes 0 (ExportPeriod 0) ∷ takes (Accept 0 1 cut) ∷ takes (Accepted 0 0 1 cut) ∷ NodeDoes 0 (ExportPeriod 0)
    ∷ AgentGoesOn 1 (b ∷ []) ∷ AgentDoes 1 (SendAgain 1) ∷ NodeDoes 0 (SendBatch 1 1) ∷ AgentDoes 1 TellJournal ∷ []

abbrev and_sends : Words → Packet → Answer
and_sends words p = record { words = words; sends = Some p }

abbrev exported : Snapshot
exported = record { period = 0; from = 0 ∷ []; to = cut; batches = b ∷ []; sheet = sheet_0; issuer = issuer_1 }

answered : answers one (begun one) acts ≡
    and_sends (HasJournaled 1) (CarriesBatch b) ∷ saying (HasTaken None) ∷ and_sends (HasBegun 1) (Prepare 0 1)
    ∷ and_sends (HasTaken None) (Promise 0 0 1 None) ∷ and_sends (HasTaken None) (Accept 0 1 cut) ∷ refusing Foreign
    ∷ saying (KeptIs (codes "K1|1|1|0|1|0|1\nB1|1|1|0\n")) ∷ saying (NodeWentOn 0 1) ∷ refusing (OfModel (NotClosed 0))
    ∷ and_sends (HasTaken None) (Accepted 0 0 1 cut) ∷ saying (HasTaken (Some 0)) ∷ saying (HasExported exported) ∷ saying (AgentWentOn 2)
    ∷ and_sends HasSent (CarriesBatch b) ∷ and_sends HasSent (CarriesBatch b) ∷ saying (KeptIs (codes "K1|1|0|0|0|0|1\nB1|1|1|0\n")) ∷ []
unfolding days_from_civil day_count days_of_years days_of_months worth_of decimals_of digits
answered = refl

-- what was sent, the batch three times
sent : (after one (begun one) acts).sent ≡
    CarriesBatch b ∷ Prepare 0 1 ∷ Promise 0 0 1 None ∷ Accept 0 1 cut ∷ Accepted 0 0 1 cut ∷ CarriesBatch b ∷ CarriesBatch b ∷ []
unfolding days_from_civil day_count days_of_years days_of_months worth_of decimals_of digits
sent = refl

another_name : codes "two" ≡ name → ⊥
another_name same =
    let passes : is_same (codes "two") name ≡ true = subst (λ t. is_same t name ≡ true) (sym same) refl in
    both_ways (is_same (codes "two") name) refl passes

-- Each packet of the group was sent before it was taken. The one that nobody sent bears another group's name. And what is handed back is what is kept.
is_history : IsHistory one (begun one) acts
unfolding days_from_civil day_count days_of_years days_of_months worth_of decimals_of digits
is_history =
    (lit≤ tt, lit≤ tt) ⨾
    (lit< tt, λ same. (0, lit< tt, refl)) ⨾
    (lit< tt, tt) ⨾
    (lit< tt, λ same. (1, lit< tt, refl)) ⨾
    (lit< tt, λ same. (2, lit< tt, refl)) ⨾
    (lit< tt, λ same. absurd (both_ways _ refl same)) ⨾
    (lit< tt, tt) ⨾
    (_, refl, refl) ⨾
    (lit< tt, tt) ⨾
    (lit< tt, λ same. (3, lit< tt, refl)) ⨾
    (lit< tt, λ same. (4, lit< tt, refl)) ⨾
    (lit< tt, tt) ⨾
    (lit≤ tt, lit≤ tt, refl) ⨾
    (lit≤ tt, lit≤ tt) ⨾
    (lit< tt, tt) ⨾
    (lit≤ tt, lit≤ tt) ⨾ tt

so_a_world_does_it : IsDoneByWorld one acts
so_a_world_does_it = is_done_by_world one acts is_history

-- Which event each act is. The agent's going on, the other group's packet and what is sent once more are none, nor is what the agent tells.
abbrev each_event : List (Option Event)
each_event =
    Some (Journal (Good (codes "B1|1|1|0\n"))) ∷ Some (Deliver 0 0) ∷ Some (Start 0) ∷ Some (Deliver 1 0) ∷ Some (Deliver 2 0)
    ∷ None ∷ Some (Keep 0) ∷ Some (Restart 0) ∷ Some (Export 0 0) ∷ Some (Deliver 3 0) ∷ Some (Deliver 4 0)
    ∷ Some (Export 0 0) ∷ None ∷ None ∷ None ∷ None ∷ []

each_is_matched : AreMatchedEach one (opened one 8) acts (answers one (begun one) acts) each_event
unfolding days_from_civil day_count days_of_years days_of_months worth_of decimals_of digits
each_is_matched =
    (refl, (b, refl, refl)) ⨾
    ((0, refl, refl), (refl, tt)) ⨾
    (refl, (refl, refl)) ⨾
    ((1, refl, refl), (refl, refl)) ⨾
    ((2, refl, refl), (refl, refl)) ⨾
    ((λ same. absurd (another_name same)), refl) ⨾
    (refl, refl) ⨾
    (refl, (_, refl, refl)) ⨾
    (refl, refl) ⨾
    ((3, refl, refl), (refl, refl)) ⨾
    ((4, refl, refl), (refl, tt)) ⨾
    (refl, refl) ⨾
    refl ⨾
    inl (b, refl, refl, (0, lit< tt, refl)) ⨾
    (_, refl, inl (b, refl, refl, (0, lit< tt, refl))) ⨾
    refl ⨾ tt

-- the events that the acts come to, by packets' numbers
abbrev events : List Event
events =
    Journal (Good (codes "B1|1|1|0\n")) ∷ Deliver 0 0 ∷ Start 0 ∷ Deliver 1 0 ∷ Deliver 2 0 ∷ Keep 0 ∷ Restart 0 ∷ Export 0 0
    ∷ Deliver 3 0 ∷ Deliver 4 0 ∷ Export 0 0 ∷ []

are_matched : AreMatched one (opened one 8) acts (answers one (begun one) acts) events
are_matched = so_are_matched one (opened one 8) acts (answers one (begun one) acts) each_event each_is_matched
