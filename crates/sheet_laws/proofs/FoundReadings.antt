-- Each reading of a holding is found at its place.
use Rattle.std.proofs.Common.{◌≡◌, true, [], get_or, refl, sym, ap, subst, ◌∙◌, inl, inr, Option, Some, None, eq-eqb}
use Rattle.std.specs.Prelude.{All, slice_get}
use Rattle.std.specs.Option.{option_and_then}
use Rattle.std.proofs.lemmas.Bool.{and_from, cases_lt}
use Rattle.std.proofs.lemmas.Option.{none-some}
use Rattle.std.proofs.lemmas.List.Elements.{All-nil, All-cons}
use Rattle.metering_model.specs.Batch.{Batch, Record, Reading, Reads}
use Rattle.metering_model.specs.Cut.{Cut, last_of}
use Rattle.metering_model.specs.Holding.{Holding, IsHolding, Position, Placed, held, records_in_order, is_same_place, reading_of, reading_at, up_to}
use Rattle.metering_model.proofs.HoldingLaws.{held-up_to, held-up_to_beyond}
use Rattle.metering_model.proofs.RecordPlaces.{place_record, record_at, stands_at, records_at}
use Rattle.metering_model.proofs.ValueBounds.{all_passing}

place_itself : (p : Position) → is_same_place p p ≡ true
place_itself p = and_from _ _ (and_from _ _ (eq-eqb p.agent p.agent refl) (eq-eqb p.seq p.seq refl)) (eq-eqb p.index p.index refl)

placed_is : (p : Position) (o : Option Record) → All (λ x. o ≡ Some x.what) (place_record p o)
placed_is p None = All-nil (λ (x : Placed). None ≡ Some x.what)
placed_is p (Some what) = All-cons (λ (x : Placed). Some what ≡ Some x.what) (record { place = p; what = what }) [] refl (All-nil (λ (x : Placed). Some what ≡ Some x.what))

each_is_there : (h : Holding) → IsHolding h → All (λ x. record_at h x.place ≡ Some x.what) (records_in_order h)
each_is_there h ok = λ k d inside.
    let x = get_or (records_in_order h) k d in
    let here = subst (All (λ (y : Placed). record_at h x.place ≡ Some y.what)) (sym (records_at h ok.in_order x.place)) (placed_is x.place (record_at h x.place)) in
    all_passing (λ (y : Placed). record_at h x.place ≡ Some y.what) (stands_at x.place) (records_in_order h) here k d inside (place_itself x.place)

is_read : (h : Holding) (p : Position) (r : Reading) → record_at h p ≡ Some (Reads r) → reading_at h p ≡ Some r
is_read h p r e = by_batch (held h p.agent p.seq) e
  where
    by_record : (o : Option Record) → o ≡ Some (Reads r) → option_and_then reading_of o ≡ Some r
    by_record o e = ap (option_and_then reading_of) e

    by_batch : (o : Option Batch) → option_and_then (λ b. slice_get b.records p.index) o ≡ Some (Reads r) → option_and_then (λ b. option_and_then reading_of (slice_get b.records p.index)) o ≡ Some r
    by_batch None e = absurd (none-some _ e)
    by_batch (Some b) e = by_record (slice_get b.records p.index) e

-- what stands up to a cut stands in the whole
pub above_too : (h : Holding) (cut : Cut) (p : Position) (r : Reading) → reading_at (up_to cut h) p ≡ Some r → reading_at h p ≡ Some r
above_too h cut p r e = elim (cases_lt (last_of cut p.agent) p.seq) [
  | inl beyond ↦ absurd (none-some r (sym (ap (option_and_then (λ (b : Batch). option_and_then reading_of (slice_get b.records p.index))) (held-up_to_beyond cut h p.agent p.seq beyond)) ∙ e))
  | inr within ↦ sym (ap (option_and_then (λ (b : Batch). option_and_then reading_of (slice_get b.records p.index))) (held-up_to cut h p.agent p.seq within)) ∙ e
]

-- the reading that a record is, if it is one, is found at its place
abbrev pub IsFound : Holding → Placed → Type 0
IsFound h x = (r : Reading) → x.what ≡ Reads r → reading_at h x.place ≡ Some r

pub readings_found : (h : Holding) → IsHolding h → All (IsFound h) (records_in_order h)
readings_found h ok = λ k d inside r e.
    let x = get_or (records_in_order h) k d in
    is_read h x.place r (each_is_there h ok k d inside ∙ ap (λ (o : Record). Some o) e)
