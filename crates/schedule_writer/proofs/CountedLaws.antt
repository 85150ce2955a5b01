-- Which batches count for what is warned of, and what is told of them, one behind the other.
use Rattle.std.proofs.Common.{◌≡◌, ℕ, ◌+◌, ◌-◌, ◌≤◌, cond, List, [], ◌∷◌, ◌++◌, map, take, drop, Result, Ok, Err, refl, sym, ap, ap₂, ◌∙◌, append_assoc, append-nil, arith}
use Rattle.std.proofs.Math.Seq.{take-add}
use Rattle.std.proofs.lemmas.List.Sums.{sum_by-append}
use Rattle.std.specs.Prelude.{◌==◌}
use Rattle.metering_model.specs.Batch.{Batch}
use Rattle.metering_model.specs.Step.{play, step}
use Rattle.metering_model.specs.Transcript.{line_count}
use Rattle.metering_model.specs.World.{World, Event, Good, Bad, Journal, Refused, offer_of}
use Rattle.metering_model.specs.declared.BatchFault.{BatchFault}
use Rattle.metering_model.specs.declared.Refusal.{Refusal}
use Rattle.batch_view.specs.Batches.{batch_of}
use Rattle.batch_view.specs.Offers.{IsOfferOf}
use Rattle.batch_view.specs.declared.owned.Offer.{Offer}
use Rattle.batch_view.specs.declared.owned.Offer.TheVariants as offered
use Rattle.group_events.specs.declared.events.Event as events
use Rattle.group_events.specs.declared.events.Event.TheVariants as event
use Rattle.group_events.specs.Events.{event_of}
use Rattle.fault_lines.specs.Ahead.{ahead_of, ahead_of_all}
use Rattle.schedule_writer.specs.Checks.{if_journaled, journaled_of}
use Rattle.schedule_writer.specs.Inputs.{Item, Offers, Closes, Offered, batches_of}
use Rattle.schedule_writer.specs.Refusals.{IsJournaled, answer_to, journal_of}
use Rattle.schedule_writer.specs.Inner.Counted.{handed_in, with_journaled}
use Rattle.schedule_writer.proofs.AnswerLaws.{journaled_is_batch}
use Rattle.schedule_writer.proofs.ItemLaws.{batches_split}

-- ---- what is told of batches

ahead_joined : (before : List Batch) (xs ys : List (ℕ × Batch))
    → ahead_of_all before (xs ++ ys) ≡ ahead_of_all before xs ++ ahead_of_all (with_journaled xs before) ys
unfolding ahead_of_all
ahead_joined before [] ys = refl
ahead_joined before (x ∷ xs) ys =
    ap (λ t. ahead_of before x.0 x.1 ++ t) (ahead_joined (x.1 ∷ before) xs ys)
    ∙ sym (append_assoc (ahead_of before x.0 x.1) (ahead_of_all (x.1 ∷ before) xs) (ahead_of_all (with_journaled xs (x.1 ∷ before)) ys))

pub ahead_of_none : (before : List Batch) → ahead_of_all before [] ≡ []
unfolding ahead_of_all
ahead_of_none before = refl

pub ahead_of_one : (before : List Batch) (lines : ℕ) (b : Batch) → ahead_of_all before ((lines, b) ∷ []) ≡ ahead_of before lines b
unfolding ahead_of_all
ahead_of_one before lines b = append-nil (ahead_of before lines b)

-- ---- one batch

pub no_batch_handed_in : (lines : ℕ) (e : events.Event) → ((offer : Offer) → e ≡ event.Journal offer → ⊥) → handed_in lines (event_of e) ≡ []
no_batch_handed_in lines (event.Journal offer) never = absurd (never offer refl)
no_batch_handed_in lines (event.Deliver packet node) never = refl
no_batch_handed_in lines (event.Start node) never = refl
no_batch_handed_in lines (event.Restart node) never = refl
no_batch_handed_in lines (event.Export node period) never = refl
no_batch_handed_in lines (event.Keep node) never = refl
no_batch_handed_in lines (event.Revive node offer) never = refl

-- what a text is offered as
pub journal_there : (text : List ℕ) (offer : Offer) → IsOfferOf text offer → event_of (event.Journal offer) ≡ Journal (offer_of text)
journal_there text (offered.Good kept) is =
    ap (λ t. Journal (Good t)) is.0 ∙ sym (ap (λ (r : Result Batch BatchFault). Journal (elim r [ Ok b ↦ Good text | Err fault ↦ Bad fault ])) is.1)
journal_there text (offered.Bad fault) is = sym (ap (λ (r : Result Batch BatchFault). Journal (elim r [ Ok b ↦ Good text | Err fault ↦ Bad fault ])) is)

module _ (input : List ℕ) (w : World) (b : Offered) where
  pub handed_in_there : (lines : ℕ) (e : Event) → e ≡ journal_of b → lines ≡ line_count (take b.from input) → IsJournaled (answer_to w b.text)
      → handed_in lines e ≡ if_journaled input b (answer_to w b.text)
  handed_in_there lines e is above journaled =
      let batch = journaled_is_batch w b.text journaled in
      let good : offer_of b.text ≡ Good b.text = ap (λ (r : Result Batch BatchFault). elim r [ Ok x ↦ Good b.text | Err fault ↦ Bad fault ]) batch.1 in
      ap (handed_in lines) (is ∙ ap Journal good) ∙ (ap (λ n. (n, batch_of b.text) ∷ []) above ∙ sym (ap (if_journaled input b) journaled.1))

  pub none_counted : ((why : Refusal) × (answer_to w b.text ≡ Refused why)) → if_journaled input b (answer_to w b.text) ≡ []
  none_counted refused = ap (if_journaled input b) refused.1

-- ---- one item

pub counted_one : (input : List ℕ) (w : World) (i : Item) (b : Offered) → Offers b ≡ i
    → if_journaled input b (answer_to w b.text) ≡ journaled_of input w (batches_of (i ∷ []))
counted_one input w i b is =
    sym (append-nil (if_journaled input b (answer_to w b.text))) ∙ ap (λ x. journaled_of input w (batches_of (x ∷ []))) is

pub no_item_counted : (input : List ℕ) (w : World) (i : Item) → Closes ≡ i → journaled_of input w (batches_of (i ∷ [])) ≡ []
no_item_counted input w i is = sym (ap (λ x. journaled_of input w (batches_of (x ∷ []))) is)

-- ---- in turn

-- the batches that count of some, and of those behind them
pub counted_behind : (input : List ℕ) (w : World) (bs cs : List Offered)
    → journaled_of input w (bs ++ cs) ≡ journaled_of input w bs ++ journaled_of input (play w (map journal_of bs)).1 cs
counted_behind input w [] cs = refl
counted_behind input w (b ∷ bs) cs =
    ap (λ t. if_journaled input b (answer_to w b.text) ++ t) (counted_behind input (step w (journal_of b)).1 bs cs)
    ∙ sym (append_assoc (if_journaled input b (answer_to w b.text)) (journaled_of input (step w (journal_of b)).1 bs)
    (journaled_of input (play (step w (journal_of b)).1 (map journal_of bs)).1 cs))

-- what was warned of with one item more, and what is left behind it
pub ahead_more : (input all old new : List ℕ) (before : List Batch) (w v : World) (i : Item) (is : List Item)
    → old ++ ahead_of_all before (journaled_of input w (batches_of (i ∷ is))) ≡ all
    → new ≡ old ++ ahead_of_all before (journaled_of input w (batches_of (i ∷ []))) → v ≡ (play w (map journal_of (batches_of (i ∷ [])))).1
    → new ++ ahead_of_all (with_journaled (journaled_of input w (batches_of (i ∷ []))) before) (journaled_of input v (batches_of is)) ≡ all
ahead_more input all old new before w v i is so_far more after =
    let here = journaled_of input w (batches_of (i ∷ [])) in
    let rest = journaled_of input (play w (map journal_of (batches_of (i ∷ [])))).1 (batches_of is) in
    let split : journaled_of input w (batches_of (i ∷ is)) ≡ here ++ rest
    = ap (journaled_of input w) (batches_split i is) ∙ counted_behind input w (batches_of (i ∷ [])) (batches_of is) in
    ap₂ (λ t u. t ++ ahead_of_all (with_journaled here before) (journaled_of input u (batches_of is))) more after
    ∙ (append_assoc old (ahead_of_all before here) (ahead_of_all (with_journaled here before) rest)
    ∙ (ap (λ t. old ++ t) (sym (ahead_joined before here rest) ∙ ap (ahead_of_all before) (sym split)) ∙ so_far))

-- where no item is left nothing more is warned of
pub nothing_ahead : (input warned all : List ℕ) (before : List Batch) (w : World) (is : List Item) → is ≡ []
    → warned ++ ahead_of_all before (journaled_of input w (batches_of is)) ≡ all → warned ≡ all
nothing_ahead input warned all before w is none so =
    sym (append-nil warned) ∙ (ap (λ t. warned ++ t) (sym (ap (λ js. ahead_of_all before (journaled_of input w (batches_of js))) none ∙ ahead_of_none before)) ∙ so)

-- ---- lines above a byte

pub lines_split : (from to : ℕ) (t : List ℕ) → from ≤ to
    → line_count (take from t) + line_count (take (to - from) (drop from t)) ≡ line_count (take to t)
lines_split from to t within =
    let many : from + (to - from) ≡ to = omega (arith, within) in
    sym (sum_by-append (λ x. cond (x == 10) 1 0) (take from t) (take (to - from) (drop from t)))
    ∙ (ap line_count (sym (take-add from (to - from) t)) ∙ ap (λ n. line_count (take n t)) many)
