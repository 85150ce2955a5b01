-- Worlds that a faulty node would leave: of each the headline is false.
use Rattle.std.proofs.Common.{◌≡◌, ℕ, zero, suc, ◌≤◌, Bool, true, cond, List, [], ◌∷◌, ◌++◌, length, replicate, slice_index, refl, sym, ap, subst, ◌∙◌, arith, Option, Some, None, Result, Ok, Err, unwrap_or}
use Rattle.std.specs.Prelude.{slice_get, pos, false, codes}
use Rattle.std.specs.List.{Contains, count_by, list_any}
use Rattle.std.proofs.lemmas.Bool.{leb-true, both_ways}
use Rattle.std.proofs.lemmas.Option.{same_Some, none-some}
use Rattle.jiff_core.specs.Calendar.{days_from_civil, day_count, days_of_years, days_of_months}
use Rattle.metering_model.specs.declared.Version.TheVariants.{B1}
use Rattle.metering_model.specs.Batch.{Batch, Reading, Reads}
use Rattle.metering_model.specs.declared.Kind.TheVariants.{Credit}
use Rattle.metering_model.specs.declared.ChargeClass.TheVariants.{New}
use Rattle.metering_model.specs.Sheet.{Sheet, Issuer}
use Rattle.metering_model.specs.Holding.{held}
use Rattle.metering_model.specs.Row.{row}
use Rattle.metering_model.specs.Rows.{PlacedRow}
use Rattle.metering_model.specs.Cut.{Cut, IsAtLeast, IsGrowing}
use Rattle.metering_model.specs.declared.Refusal.{Refusal}
use Rattle.metering_model.specs.declared.Refusal.TheVariants.{BadBatch, NotKept}
use Rattle.metering_model.specs.declared.BatchFault.{BatchFault}
use Rattle.metering_model.specs.declared.KeptTextFault.{KeptTextFault}
use Rattle.metering_model.specs.KeptText.{KeptAmong, kept_in}
use Rattle.metering_model.specs.Step.{step, play}
use Rattle.metering_model.specs.Transcript.{line}
use Rattle.std.specs.Fmt.{digits}
use Rattle.metering_model.specs.World.{Good, Bad, Journal, Deliver, Start, Restart, Export, Keep, Revive, KeptGood, KeptText, Refused, with_node_at, World, Node, Event, Reply, Snapshot, Journaled, Restarted, Exported, Prepare, Promise, Accept, Accepted, Decided, wake, new_kept, opening}
use Rattle.metering_model.specs.Ballot.{Acceptor}
use Rattle.metering_model.specs.Chosen.{IsChosen, accepts}
use Rattle.metering_model.proofs.Samples.{sheet_0, sheet_1, issuer_1}
use Rattle.group_laws.specs.Headline.{IsNewIn, AreChargedOnce, HoldsAfter}
use Rattle.metering_model.specs.Limits.{most_packets}
use Rattle.group_laws.specs.EveryRun.{KeepsLimits}
use Rattle.group_laws.proofs.Quorum.{count_by-cons}

abbrev low : Cut
low = 1 ∷ []

abbrev high : Cut
high = 2 ∷ []

abbrev batch_of : ℕ → Batch
batch_of seq = record { version = B1; agent = 1; seq = seq; records = [] }

abbrev whole_holding : List Batch
whole_holding = batch_of 1 ∷ batch_of 2 ∷ []

-- a group with two batches in its journals, so that what is wrong is what the packets tell
abbrev opened : ℕ → World
opened nodes = record (opening nodes 0 1 sheet_0 issuer_1) { journals = whole_holding }

abbrev IsFalseWith : ℕ → ℕ → List Reply → World → Type 0
IsFalseWith voters observers replies w = (events : List Event) → HoldsAfter voters observers 1 sheet_0 issuer_1 events replies w → ⊥

-- of a group in which each node votes
abbrev IsFalseOf : ℕ → List Reply → World → Type 0
IsFalseOf nodes replies w = IsFalseWith nodes 0 replies w

-- whatever was answered: so it is the world that is wrong
abbrev IsNeverTrueOf : ℕ → World → Type 0
IsNeverTrueOf nodes w = (replies : List Reply) → IsFalseOf nodes replies w

-- ---- two cuts that are chosen for one period

two_chosen : (nodes : ℕ) (replies : List Reply) (w : World) → IsChosen w 0 low → IsChosen w 0 high → IsFalseOf nodes replies w
two_chosen nodes replies w one other events h = differ (h.one 0 low high one other)
  where
    differ : low ≡ high → ⊥
    differ e = cc

-- Node 1 accepts `low` at ballot 3, which so is chosen. It forgets its vote, and promises ballot 5 without a word of it.
abbrev after_a_forgotten_vote : World
after_a_forgotten_vote = record (opened 3) {
  packets =
      Prepare 0 3 ∷ Promise 0 0 3 None ∷ Promise 1 0 3 None ∷ Accept 0 3 low ∷ Accepted 0 0 3 low ∷ Accepted 1 0 3 low ∷
      Prepare 0 5 ∷ Promise 1 0 5 None ∷ Promise 2 0 5 None ∷ Accept 0 5 high ∷ Accepted 1 0 5 high ∷ Accepted 2 0 5 high ∷ [];
}

a_vote_is_not_forgotten : IsNeverTrueOf 3 after_a_forgotten_vote
a_vote_is_not_forgotten replies = two_chosen 3 replies after_a_forgotten_vote (record { ballot = 3; by_majority = leb-true _ _ refl }) (record { ballot = 5; by_majority = leb-true _ _ refl })

-- Node 1 has promised ballot 5, and then promises ballot 3, and accepts at both.
abbrev after_two_promises : World
after_two_promises = record (opened 3) {
  packets =
      Prepare 0 3 ∷ Prepare 0 5 ∷ Promise 1 0 5 None ∷ Promise 2 0 5 None ∷ Promise 1 0 3 None ∷ Promise 0 0 3 None ∷
      Accept 0 3 low ∷ Accepted 0 0 3 low ∷ Accepted 1 0 3 low ∷ Accept 0 5 high ∷ Accepted 1 0 5 high ∷ Accepted 2 0 5 high ∷ [];
}

an_older_ballot_is_not_promised : IsNeverTrueOf 3 after_two_promises
an_older_ballot_is_not_promised replies = two_chosen 3 replies after_two_promises (record { ballot = 3; by_majority = leb-true _ _ refl }) (record { ballot = 5; by_majority = leb-true _ _ refl })

-- Node 1 accepts ballot 5 without having seen its Prepare. It takes that for no promise, and accepts ballot 3 afterwards: so
-- to ballot 6 it tells the vote of 3, and not that of 5, which is chosen. Nodes 0 and 2 do as they should.
abbrev after_a_vote_that_promised_nothing : World
after_a_vote_that_promised_nothing = record (opened 3) {
  packets =
      Prepare 0 3 ∷ Promise 0 0 3 None ∷ Promise 1 0 3 None ∷ Accept 0 3 low ∷ Prepare 0 5 ∷ Promise 2 0 5 None ∷
      Promise 0 0 5 None ∷ Accept 0 5 high ∷ Accepted 1 0 5 high ∷ Accepted 2 0 5 high ∷ Accepted 1 0 3 low ∷
      Prepare 0 6 ∷ Promise 0 0 6 None ∷ Promise 1 0 6 (Some (record { ballot = 3; cut = low })) ∷ Accept 0 6 low ∷
      Accepted 0 0 6 low ∷ Accepted 1 0 6 low ∷ [];
}

a_vote_is_a_promise : IsNeverTrueOf 3 after_a_vote_that_promised_nothing
a_vote_is_a_promise replies = two_chosen 3 replies after_a_vote_that_promised_nothing (record { ballot = 6; by_majority = leb-true _ _ refl }) (record { ballot = 5; by_majority = leb-true _ _ refl })

-- Two cuts go out at one ballot: it is of two nodes, or its proposer took one more promise after it had sent.
abbrev after_a_shared_ballot : World
after_a_shared_ballot = record (opened 3) {
  packets =
      Prepare 0 3 ∷ Promise 0 0 3 None ∷ Promise 1 0 3 None ∷ Accept 0 3 low ∷ Promise 2 0 3 None ∷ Accept 0 3 high ∷
      Accepted 0 0 3 low ∷ Accepted 1 0 3 low ∷ Accepted 1 0 3 high ∷ Accepted 2 0 3 high ∷ [];
}

a_ballot_has_one_cut : IsNeverTrueOf 3 after_a_shared_ballot
a_ballot_has_one_cut replies = two_chosen 3 replies after_a_shared_ballot (record { ballot = 3; by_majority = leb-true _ _ refl }) (record { ballot = 3; by_majority = leb-true _ _ refl })

-- ---- half of the nodes taken for a majority

abbrev has_learned : Cut → Node
has_learned cut = wake (record new_kept { learned = cut ∷ [] })

-- Each of two nodes has accepted at its own ballot, counted one vote, and learned.
abbrev after_half : World
after_half = record (opened 2) {
  packets = Accepted 0 0 2 low ∷ Accepted 1 0 3 high ∷ [];
  nodes = has_learned low ∷ has_learned high ∷ [];
}

half_is_no_majority : IsNeverTrueOf 2 after_half
half_is_no_majority replies events h = differ (first.1 ∙ sym second.1)
  where
    first : (rest : List Cut) × (low ∷ rest ≡ h.cuts)
    first = h.are_the_cuts.learned (has_learned low) (0, omega arith, refl)

    second : (rest : List Cut) × (high ∷ rest ≡ h.cuts)
    second = h.are_the_cuts.learned (has_learned high) (1, omega arith, refl)

    differ : low ∷ first.0 ≡ high ∷ second.0 → ⊥
    differ e = cc

-- a cut that a node learned of nobody
abbrev after_a_guess : World
after_a_guess = record (opened 1) { nodes = has_learned low ∷ [] }

a_cut_is_not_guessed : IsNeverTrueOf 1 after_a_guess
a_cut_is_not_guessed replies events h = never ((h.are_the_cuts.chosen 0 low).0 first)
  where
    prefix : (rest : List Cut) × (low ∷ rest ≡ h.cuts)
    prefix = h.are_the_cuts.learned (has_learned low) (0, omega arith, refl)

    first : slice_get h.cuts 0 ≡ Some low
    first = ap (λ cuts. slice_get cuts 0) (sym prefix.1)

    never : IsChosen after_a_guess 0 low → ⊥
    never chosen = let many = chosen.by_majority in omega (arith, many)

-- ---- an observer taken for a voter

-- Of two voters one has accepted, and so has an observer. Node 0 counts both, and learns.
abbrev after_an_observers_vote : World
after_an_observers_vote = record (opening 2 1 1 sheet_0 issuer_1) {
  journals = whole_holding;
  packets =
      Prepare 0 2 ∷ Promise 0 0 2 None ∷ Promise 1 0 2 None ∷ Accept 0 2 low ∷ Accepted 0 0 2 low ∷ Accepted 2 0 2 low ∷ [];
  nodes = has_learned low ∷ wake new_kept ∷ wake new_kept ∷ [];
}

an_observer_has_no_vote : (replies : List Reply) → IsFalseWith 2 1 replies after_an_observers_vote
an_observer_has_no_vote replies events h = never ((h.are_the_cuts.chosen 0 low).0 first)
  where
    prefix : (rest : List Cut) × (low ∷ rest ≡ h.cuts)
    prefix = h.are_the_cuts.learned (has_learned low) (0, omega arith, refl)

    first : slice_get h.cuts 0 ≡ Some low
    first = ap (λ cuts. slice_get cuts 0) (sym prefix.1)

    one_at_most : (b : Bool) → cond b 1 0 ≤ 1
    one_at_most true = omega arith
    one_at_most false = omega arith

    never : IsChosen after_an_observers_vote 0 low → ⊥
    never chosen =
        let f : ℕ → Bool = λ node. list_any (accepts node 0 chosen.ballot low) after_an_observers_vote.packets in
        let many : 2 ≤ count_by f (0 ∷ 1 ∷ []) = chosen.by_majority in
        let zeroth = count_by-cons f 0 (1 ∷ []) in
        let second : count_by f (1 ∷ []) ≡ 0 = count_by-cons f 1 [] in
        let few = one_at_most (f 0) in
        omega (arith, many, zeroth, second, few)

-- ---- a node revived from an old text

-- One node has a batch, and its text is kept. Then it starts ballot 1, and accepts the cut up to that batch.
abbrev first_events : List Event
first_events = Journal (Good (line (codes "B1|1|1|0"))) ∷ Deliver 0 0 ∷ []

abbrev with_one_batch : World
with_one_batch = (play (opening 1 0 1 sheet_0 issuer_1) first_events).1

abbrev old_text : List ℕ
old_text = line (codes "K1|1|0|0|0|0|1") ++ line (codes "B1|1|1|0")

it_is_the_old_text : (step with_one_batch (Keep 0)).0 ≡ KeptText old_text
unfolding digits
it_is_the_old_text = refl

abbrev with_a_vote : World
with_a_vote =
    (play with_one_batch (Start 0 ∷ Deliver 1 0 ∷ Deliver 2 0 ∷ Deliver 3 0 ∷ Journal (Good (line (codes "B1|1|2|0"))) ∷ [])).1

-- a step refuses the old text, since it is not of what the node keeps now
an_old_text_is_refused : step with_a_vote (Revive 0 (KeptGood old_text)) ≡ (Refused NotKept, with_a_vote)
unfolding digits
an_old_text_is_refused = refl

-- Where it were taken, the node would have no round and no vote any more. So it begins ballot 1 again, with the second batch too.
abbrev of_the_old_text : Result KeptAmong KeptTextFault → World → World
of_the_old_text (Ok k) w = with_node_at 0 (wake k.kept) w
of_the_old_text (Err fault) w = w

abbrev after_an_old_text : World
after_an_old_text =
    (play (of_the_old_text (kept_in old_text) with_a_vote) (Deliver 5 0 ∷ Start 0 ∷ Deliver 6 0 ∷ Deliver 7 0 ∷ Deliver 8 0 ∷ [])).1

an_old_text_loses_a_vote : IsNeverTrueOf 1 after_an_old_text
unfolding digits
an_old_text_loses_a_vote replies = two_chosen 1 replies after_an_old_text (record { ballot = 1; by_majority = leb-true _ _ refl }) (record { ballot = 1; by_majority = leb-true _ _ refl })

-- ---- cuts that go back, or beyond the journals

-- one node, which chooses the second batch for period 0, and only the first for period 1
abbrev after_a_step_back : World
after_a_step_back = record (opening 1 0 1 sheet_0 issuer_1) {
  journals = batch_of 1 ∷ batch_of 2 ∷ [];
  packets = Accepted 0 0 1 high ∷ Accepted 0 1 2 low ∷ [];
}

cuts_do_not_go_back : IsNeverTrueOf 1 after_a_step_back
cuts_do_not_go_back replies events h = back h.cuts
    ((h.are_the_cuts.chosen 0 high).1 (record { ballot = 1; by_majority = leb-true _ _ refl }))
    ((h.are_the_cuts.chosen 1 low).1 (record { ballot = 2; by_majority = leb-true _ _ refl })) h.are_the_cuts.growing
  where
    back : (cuts : List Cut) → slice_get cuts 0 ≡ Some high → slice_get cuts 1 ≡ Some low → IsGrowing 1 cuts → ⊥
    back [] e f grows = none-some high e
    back (c ∷ []) e f grows = none-some low f
    back (c ∷ d ∷ cuts) e f grows =
        let under = subst (λ (x : Cut). IsAtLeast x high) (same_Some d low f) (subst (λ (x : Cut). IsAtLeast d x) (same_Some c high e) grows.1.0) in
        omega (arith, under.0)

-- one node, which chooses a batch that was never journaled
abbrev after_a_promise_of_more : World
after_a_promise_of_more = record (opening 1 0 1 sheet_0 issuer_1) { packets = Accepted 0 0 1 low ∷ [] }

a_cut_stays_within_the_journals : IsNeverTrueOf 1 after_a_promise_of_more
a_cut_stays_within_the_journals replies events h = let less = h.are_the_cuts.journaled 0 low first 1 in omega (arith, less)
  where
    first : slice_get h.cuts 0 ≡ Some low
    first = (h.are_the_cuts.chosen 0 low).1 (record { ballot = 1; by_majority = leb-true _ _ refl })

-- a credit of February 2025
abbrev credit : Reading
credit = record {
  kind = Credit;
  start = pos 1_738_368_000;
  end = pos 1_738_371_600;
  start_text = codes "2025-02-01T00:00:00Z";
  end_text = codes "2025-02-01T01:00:00Z";
  account = [];
  resource = [];
  key = codes "Launch credit";
  value = pos 5;
  commitment = [];
  tags = [];
  region = None;
}

abbrev credited : World
credited = record (opening 1 0 1 sheet_0 issuer_1) { journals = record { version = B1; agent = 1; seq = 1; records = Reads credit ∷ [] } ∷ [] }

-- one node, which chooses February's batch for January, period 0
abbrev after_an_early_cut : World
after_an_early_cut = record credited { packets = Accepted 0 0 1 low ∷ [] }

a_cut_adds_what_is_due : IsNeverTrueOf 1 after_an_early_cut
unfolding days_from_civil day_count days_of_years days_of_months
a_cut_adds_what_is_due replies events h = both_ways false refl (h.are_the_cuts.due 0 low first 1 1 (omega arith) (omega arith))
  where
    first : slice_get h.cuts 0 ≡ Some low
    first = (h.are_the_cuts.chosen 0 low).1 (record { ballot = 1; by_majority = leb-true _ _ refl })

-- cuts that go back and come again charge a reading in two periods
abbrev back_and_again : List Cut
back_and_again = low ∷ (0 ∷ []) ∷ low ∷ []

abbrev charge_in : ℕ → PlacedRow
charge_in period = record { place = record { agent = 1; seq = 1; index = 0 }; row = row sheet_0 issuer_1 credit period New (pos 0) (pos 5) }

going_back_charges_twice : AreChargedOnce credited back_and_again → ⊥
going_back_charges_twice once =
    let first : IsNewIn credited back_and_again 0 0 (charge_in 0) = record { to = low; cut = refl; row = refl; new = refl } in
    let again : IsNewIn credited back_and_again 2 0 (charge_in 2) = record { to = low; cut = refl; row = refl; new = refl } in
    let same = (once.at_most 0 2 0 0 (charge_in 0) (charge_in 2) first again refl).0 in
    omega (arith, same)

-- ---- an export beyond its cut

abbrev too_much : Snapshot
too_much = record { period = 0; from = 0 ∷ []; to = low; batches = whole_holding; sheet = sheet_0; issuer = issuer_1 }

abbrev after_an_export_of_all : World
after_an_export_of_all = record (opening 1 0 1 sheet_0 issuer_1) {
  journals = whole_holding;
  packets = Accepted 0 0 1 low ∷ [];
}

an_export_ends_at_its_cut : (replies : List Reply) → Contains replies (Exported too_much) → IsFalseOf 1 replies after_an_export_of_all
an_export_ends_at_its_cut replies there events h = let sizes : 2 ≡ 1 = ap (λ (b : List Batch). length b) (h.exports too_much there).batches in omega (arith, sizes)

-- two exports of one period that differ
abbrev too_little : Snapshot
too_little = record too_much { batches = [] }

exports_of_a_period_are_equal : (replies : List Reply) → Contains replies (Exported too_much) → Contains replies (Exported too_little) →
    IsFalseOf 1 replies after_an_export_of_all
exports_of_a_period_are_equal replies there too events h =
    let sizes : 2 ≡ 0 = ap (λ (s : Snapshot). length s.batches) (h.one_export too_much too_little there too refl) in
    omega (arith, sizes)

-- ---- an export of another cut, sheet or issuer

-- One node learns the cut of the first batch for period 0, and that of both for period 1. All is as it should be, but for the
-- answer behind these.
abbrev two_periods : List Event
two_periods =
    Journal (Good (line (codes "B1|1|1|0"))) ∷ Deliver 0 0 ∷ Start 0 ∷ Deliver 1 0 ∷ Deliver 2 0 ∷ Deliver 3 0 ∷ Deliver 4 0 ∷
    Journal (Good (line (codes "B1|1|2|0"))) ∷ Deliver 5 0 ∷ Start 0 ∷ Deliver 6 0 ∷ Deliver 7 0 ∷ Deliver 8 0 ∷ Deliver 9 0 ∷ []

abbrev two_answered : List Reply × World
two_answered = play (opening 1 0 1 sheet_0 issuer_1) two_periods

abbrev after_two_periods : World
after_two_periods = two_answered.1

abbrev then_answered : Reply → List Reply
then_answered reply = two_answered.0 ++ reply ∷ []

low_is_chosen : IsChosen after_two_periods 0 low
unfolding digits
low_is_chosen = record { ballot = 1; by_majority = leb-true _ _ refl }

-- what is answered of period 1
abbrev second_export : Snapshot
second_export = record { period = 1; from = low; to = high; batches = whole_holding; sheet = sheet_0; issuer = issuer_1 }

it_is_the_second_export : (step after_two_periods (Export 0 1)).0 ≡ Exported second_export
unfolding digits
it_is_the_second_export = refl

the_wrong_one : (s : Snapshot) → Contains (then_answered (Exported s)) (Exported s)
unfolding digits
the_wrong_one s = (14, omega arith, refl)

-- one from the zero cut, which charges period 0 again
abbrev from_the_start : Snapshot
from_the_start = record second_export { from = 0 ∷ [] }

an_export_begins_at_the_cut_before : IsFalseOf 1 (then_answered (Exported from_the_start)) after_two_periods
unfolding digits
an_export_begins_at_the_cut_before events h = differ ((h.exports from_the_start (the_wrong_one from_the_start)).from ∙ before)
  where
    before : unwrap_or (slice_get h.cuts 0) (0 ∷ []) ≡ low
    before = ap (λ (cut : Option Cut). unwrap_or cut (0 ∷ [])) ((h.are_the_cuts.chosen 0 low).1 low_is_chosen)

    differ : 0 ∷ [] ≡ low → ⊥
    differ e = cc

-- one of period 0 to the cut of period 1
abbrev to_the_next : Snapshot
to_the_next = record second_export { period = 0; from = 0 ∷ [] }

an_export_is_to_the_chosen_cut : IsFalseOf 1 (then_answered (Exported to_the_next)) after_two_periods
unfolding digits
an_export_is_to_the_chosen_cut events h =
    differ (sym (h.exports to_the_next (the_wrong_one to_the_next)).to ∙ (h.are_the_cuts.chosen 0 low).1 low_is_chosen)
  where
    differ : Some high ≡ Some low → ⊥
    differ e = cc

-- one at another sheet, with more prices
abbrev at_other_prices : Snapshot
at_other_prices = record second_export { sheet = sheet_1 }

an_export_is_at_the_groups_sheet : IsFalseOf 1 (then_answered (Exported at_other_prices)) after_two_periods
unfolding digits
an_export_is_at_the_groups_sheet events h =
    let prices : 3 ≡ 1 = ap (λ (s : Sheet). length s.prices) (h.exports at_other_prices (the_wrong_one at_other_prices)).sheet in
    omega (arith, prices)

-- one of another issuer, which bills in euros
abbrev in_euros : Snapshot
in_euros = record second_export { issuer = record issuer_1 { currency = codes "EUR" } }

an_export_is_of_the_groups_issuer : IsFalseOf 1 (then_answered (Exported in_euros)) after_two_periods
unfolding digits
an_export_is_of_the_groups_issuer events h =
    let letters : 69 ≡ 85 = ap (λ (i : Issuer). slice_index i.currency 0) (h.exports in_euros (the_wrong_one in_euros)).issuer in
    omega (arith, letters)

-- ---- events without their answers

-- of one node, which votes: these events do not have these answers
abbrev IsFalseAnswer : List Event → List Reply → World → Type 0
IsFalseAnswer events replies w = HoldsAfter 1 0 1 sheet_0 issuer_1 events replies w → ⊥

-- a group with no batch, and with the first one in its journals
abbrev without_batches : World
without_batches = opening 1 0 1 sheet_0 issuer_1

abbrev with_first : World
with_first = record without_batches { journals = batch_of 1 ∷ [] }

abbrev hands_first_in : Event
hands_first_in = Journal (Good (line (codes "B1|1|1|0")))

no_event_goes_unanswered : IsFalseAnswer (Restart 0 ∷ []) [] without_batches
no_event_goes_unanswered h = let sizes : 0 ≡ 1 = h.answers.one_each in omega (arith, sizes)

no_answer_is_without_an_event : IsFalseAnswer (Restart 0 ∷ []) (Restarted ∷ Restarted ∷ []) without_batches
no_answer_is_without_an_event h = let sizes : 2 ≡ 1 = h.answers.one_each in omega (arith, sizes)

-- the journals have the batch, and it was answered as a restart is
a_batch_that_is_kept_is_answered_so : IsFalseAnswer (hands_first_in ∷ []) (Restarted ∷ []) with_first
a_batch_that_is_kept_is_answered_so h = let told = h.answers.only 1 1 (batch_of 1) refl in never told.0 told.1 told.4
  where
    never : (k packet : ℕ) → slice_get (Restarted ∷ []) k ≡ Some (Journaled packet) → ⊥
    never zero packet e = cc
    never (suc k) packet e = none-some (Journaled packet) e

-- the journals have a batch that nobody handed in
a_batch_that_is_kept_was_handed_in : IsFalseAnswer [] [] with_first
a_batch_that_is_kept_was_handed_in h = let told = h.answers.only 1 1 (batch_of 1) refl in none-some (Journaled told.1) told.4

-- the batch was answered `Journaled`, and the journals lack it
a_batch_that_is_journaled_is_kept : IsFalseAnswer (hands_first_in ∷ []) (Journaled 0 ∷ []) without_batches
a_batch_that_is_journaled_is_kept h = let kept = h.answers.kept 0 0 (Good (line (codes "B1|1|1|0"))) refl refl in none-some kept.0 kept.2

-- the journals have another batch in its place: a credit, where it has no record
a_batch_is_kept_as_it_was_handed_in : IsFalseAnswer (hands_first_in ∷ []) (Journaled 0 ∷ []) credited
unfolding digits
a_batch_is_kept_as_it_was_handed_in h =
    let kept = h.answers.kept 0 0 (Good (line (codes "B1|1|1|0"))) refl refl in differ kept.0 (ap or_first kept.1) kept.2
  where
    or_first : Result Batch Refusal → Batch
    or_first (Ok b) = b
    or_first (Err refusal) = batch_of 2

    differ : (b : Batch) → batch_of 1 ≡ b → held credited.journals b.agent b.seq ≡ Some b → ⊥
    differ b read there =
        let other = subst (λ (c : Batch). held credited.journals c.agent c.seq ≡ Some c) (sym read) there in
        let sizes : 1 ≡ 0 = ap (λ (c : Batch). length c.records) (same_Some _ (batch_of 1) other) in
        omega (arith, sizes)

bytes_that_are_no_batch_are_not_journaled : (fault : BatchFault) → IsFalseAnswer (Journal (Bad fault) ∷ []) (Journaled 0 ∷ []) with_first
bytes_that_are_no_batch_are_not_journaled fault h = let kept = h.answers.kept 0 0 (Bad fault) refl refl in differ kept.0 kept.1
  where
    differ : (b : Batch) → Err (BadBatch fault) ≡ Ok b → ⊥
    differ b e = cc

-- period 0 was asked for, and period 1 is exported, rightly
an_export_is_of_the_period_asked_for : IsFalseAnswer (two_periods ++ Export 0 0 ∷ []) (then_answered (Exported second_export)) after_two_periods
unfolding digits
an_export_is_of_the_period_asked_for h = let asked = h.answers.asked 14 second_export refl in differ asked.0 asked.1
  where
    differ : (node : ℕ) → Some (Export 0 0) ≡ Some (Export node 1) → ⊥
    differ node e = cc

-- none was asked for
an_export_is_asked_for : IsFalseAnswer (two_periods ++ Restart 0 ∷ []) (then_answered (Exported second_export)) after_two_periods
unfolding digits
an_export_is_asked_for h = let asked = h.answers.asked 14 second_export refl in differ asked.0 asked.1
  where
    differ : (node : ℕ) → Some (Restart 0) ≡ Some (Export node 1) → ⊥
    differ node e = cc

-- ---- beyond the limits

abbrev IsBeyondLimits : World → Type 0
IsBeyondLimits w = KeepsLimits most_packets 3 0 1 w → ⊥

-- an observer that accepts
abbrev after_an_observer_accepts : World
after_an_observer_accepts = record (opening 2 1 1 sheet_0 issuer_1) { packets = Accepted 2 0 2 low ∷ [] }

observers_accept_nothing : KeepsLimits most_packets 2 1 1 after_an_observer_accepts → ⊥
observers_accept_nothing h = let low = (h.each_packet 0 (Accepted 2 0 2 low) (omega arith)).0 in omega (arith, low)

-- a promise of a node that is not there
abbrev after_a_strangers_promise : World
after_a_strangers_promise = record (opening 3 0 1 sheet_0 issuer_1) { packets = Promise 3 0 3 None ∷ [] }

senders_are_nodes : IsBeyondLimits after_a_strangers_promise
senders_are_nodes h = let low = (h.each_packet 0 (Promise 3 0 3 None) (omega arith)).0 in omega (arith, low)

-- a cut without an entry for the agent
abbrev after_a_short_cut : World
after_a_short_cut = record (opening 3 0 1 sheet_0 issuer_1) { packets = Decided 0 [] ∷ [] }

cuts_have_an_entry_for_each_agent : IsBeyondLimits after_a_short_cut
cuts_have_an_entry_for_each_agent h = let size = (h.each_packet 0 (Decided 0 []) (omega arith)).1.size in absurd (omega (arith, size))

-- an observer that keeps a promise
abbrev after_an_observer_promises : World
after_an_observer_promises = record (opening 2 1 1 sheet_0 issuer_1) { nodes = replicate 3 (wake (record new_kept { acceptor = record { promised = Some 2; vote = None } })) }

observers_promise_nothing : KeepsLimits most_packets 2 1 1 after_an_observer_promises → ⊥
observers_promise_nothing h =
    let none : Some 2 ≡ None = ap (λ (a : Acceptor). a.promised) (h.each_observer 2 (wake (record new_kept { acceptor = record { promised = Some 2; vote = None } })) (omega arith) refl).acceptor in
    none-some 2 (sym none)
