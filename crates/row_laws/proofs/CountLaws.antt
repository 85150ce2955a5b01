-- A place has at most one row of class New over all periods: in the one whose cut first reaches it.
use Rattle.std.proofs.Common.{◌≡◌, ℕ, suc, ◌<◌, ◌≤◌, Bool, true, false, ◌&&◌, cond, ltb, leb, List, [], ◌∷◌, length, map, filter, Option, Some, None, ℤ, pos, ◌+ℤ◌, ◌-ℤ◌, refl, sym, ap, ap₂, subst, ◌∙◌, arith, inl, inr}
use Rattle.std.specs.Prelude.{All, slice_get, nat_le, nat_lt, if◌then◌else◌}
use Rattle.std.proofs.lemmas.Bool.Decides.{nat_tests}
use Rattle.metering_model.proofs.AgreementLaws.{last_of_grows}
use Rattle.std.specs.Option.{option_and_then}
use Rattle.std.proofs.lemmas.List.Elements.{All-head, All-tail}
use Rattle.metering_model.proofs.BatchOrder.{place_of_batch}
use Rattle.std.proofs.lemmas.Bool.{cond-true, cond-false, cases_Bool, le-leb, lt-leb}
use Rattle.std.proofs.lemmas.Int.{ints}
use Rattle.metering_model.specs.Batch.{Batch, IsWellFormed, Reading, Record, Reads, Amends}
use Rattle.metering_model.specs.Cut.{Cut, IsGrowing, IsAtLeast, zero_cut, last_of}
use Rattle.metering_model.specs.Sheet.{Sheet, Issuer}
use Rattle.metering_model.specs.Holding.{Holding, IsHolding, is_in_order, is_batch_at, held, Position, Placed, records_in_order, is_same_place, reading_of, reading_at}
use Rattle.metering_model.specs.Row.{Row}
use Rattle.metering_model.specs.Rows.{PlacedRow, placed_rows}
use Rattle.metering_model.specs.Totals.{rows_over, at_place, rows_of_place}
use Rattle.metering_model.specs.World.{last_cut}
use Rattle.row_laws.specs.Charged.{is_new}
use Rattle.row_laws.proofs.Sums.{sum_over, sum_same, sum-map, sum-filter}
use Rattle.row_laws.proofs.Telescoping.{gain, sum_of_period, sum_of_periods, last_of_zero_cut}
use Rattle.row_laws.proofs.ColumnGains.{GrowsBy, record_worth, kept, kept_worth, adds_gains}
use Rattle.metering_model.proofs.RecordPlaces.{stands_at, place_record, record_at, records_at, record_found}

-- a length is a sum of ones
counted : {A : Type 0} (p : A → Bool) (xs : List A) → pos (length (filter p xs)) ≡ sum_over (λ x. cond (p x) (pos 1) (pos 0)) xs
counted p [] = refl
counted p (x ∷ xs) =
    let rest = counted p xs in
    let behind = sum_over (λ y. cond (p y) (pos 1) (pos 0)) xs in
    elim (cases_Bool (p x)) [
      | inl t ↦ ap (λ ys. pos (length ys)) (cond-true (p x) (x ∷ filter p xs) (filter p xs) t) ∙ (one_more (length (filter p xs)) behind rest ∙ sym (ap (λ v. v +ℤ behind) (cond-true (p x) (pos 1) (pos 0) t)))
      | inr f ↦ ap (λ ys. pos (length ys)) (cond-false (p x) (x ∷ filter p xs) (filter p xs) f) ∙ (no_more (length (filter p xs)) behind rest ∙ sym (ap (λ v. v +ℤ behind) (cond-false (p x) (pos 1) (pos 0) f)))
    ]
  where
    one_more : (n : ℕ) (s : ℤ) → pos n ≡ s → pos (suc n) ≡ pos 1 +ℤ s
    one_more n s e = omega (arith, ints)

    no_more : (n : ℕ) (s : ℤ) → pos n ≡ s → pos n ≡ pos 0 +ℤ s
    no_more n s e = omega (arith, ints)

-- 1 for a row of class New
abbrev first_charges : Row → ℤ
first_charges r = cond (is_new r) (pos 1) (pos 0)

-- 1 once the reading is reached
abbrev reached : Position → Reading → ℕ → ℤ
reached at r upto = cond (leb at.seq upto) (pos 1) (pos 0)

is_reached : (at : Position) (r : Reading) (upto : ℕ) → at.seq ≤ upto → reached at r upto ≡ pos 1
is_reached at r upto h = cond-true _ (pos 1) (pos 0) (le-leb at.seq upto h)

not_reached : (at : Position) (r : Reading) (upto : ℕ) → upto < at.seq → reached at r upto ≡ pos 0
not_reached at r upto h = cond-false _ (pos 1) (pos 0) (lt-leb at.seq upto h)

counts_reached : (sheet : Sheet) (issuer : Issuer) (h : Holding) → GrowsBy sheet issuer h first_charges reached
counts_reached sheet issuer h = record {
  charged = λ period at r from to before in_to. sym (ap₂ ◌-ℤ◌ (is_reached at r to in_to) (not_reached at r from before));
  corrected = λ period at r from to in_from up. sym (ap₂ ◌-ℤ◌ (is_reached at r to (omega arith)) (is_reached at r from in_from));
  same = λ at r from to in_from up alike. is_reached at r from in_from ∙ sym (is_reached at r to (omega arith));
  outside = λ at r from to up out. not_reached at r from (omega arith) ∙ sym (not_reached at r to out);
}

-- ---- the rows of a place

count_kept : (at : Position) (xs : List PlacedRow) → pos (length (filter is_new (at_place at xs))) ≡ sum_over (kept (λ p. is_same_place p at) first_charges) xs
count_kept at xs =
    counted is_new (map (λ y. y.row) (filter (λ y. is_same_place y.place at) xs))
    ∙ (sum-map first_charges (λ (y : PlacedRow). y.row) (filter (λ y. is_same_place y.place at) xs)
    ∙ sum-filter (λ (y : PlacedRow). first_charges y.row) (λ y. is_same_place y.place at) xs)

-- whose gain counts
abbrev record_gain : Cut → Cut → Placed → ℤ
record_gain from to x = record_worth reached x.place x.what (last_of to x.place.agent) -ℤ record_worth reached x.place x.what (last_of from x.place.agent)

kept_gain : (at : Position) (from to : Cut) (h : Holding) → is_in_order h ≡ true →
    sum_over (gain (kept_worth (λ p. is_same_place p at) reached) from to) (records_in_order h) ≡ sum_over (record_gain from to) (place_record at (record_at h at))
kept_gain at from to h o =
    sum_same _ (λ x. cond (stands_at at x) (record_gain from to x) (pos 0)) (λ x. minus (stands_at at x) _ _) (records_in_order h)
    ∙ (sym (sum-filter (record_gain from to) (stands_at at) (records_in_order h))
    ∙ ap (sum_over (record_gain from to)) (records_at h o at))
  where
    minus : (b : Bool) (u v : ℤ) → cond b u (pos 0) -ℤ cond b v (pos 0) ≡ cond b (u -ℤ v) (pos 0)
    minus true u v = refl
    minus false u v = refl

module _ (sheet : Sheet) (issuer : Issuer) (h : Holding) (ok : IsHolding h) (at : Position) where
  count_in_period : (period : ℕ) (from to : Cut) → IsAtLeast to from →
      pos (length (filter is_new (at_place at (placed_rows sheet issuer h period from to)))) ≡ sum_over (record_gain from to) (place_record at (record_at h at))
  count_in_period period from to up =
      count_kept at (placed_rows sheet issuer h period from to)
      ∙ (sum_of_period sheet issuer h _ _ (adds_gains sheet issuer h first_charges reached (counts_reached sheet issuer h) (λ p. is_same_place p at)) period from to up
      ∙ kept_gain at from to h ok.in_order)

  count_in_all : (agents : ℕ) (cuts : List Cut) → IsGrowing agents cuts →
      pos (length (filter is_new (rows_of_place sheet issuer h agents cuts at))) ≡ sum_over (record_gain (zero_cut agents) (last_cut agents cuts)) (place_record at (record_at h at))
  count_in_all agents cuts grows =
      count_kept at (rows_over sheet issuer h 0 (zero_cut agents) cuts)
      ∙ (sum_of_periods sheet issuer h _ _ (adds_gains sheet issuer h first_charges reached (counts_reached sheet issuer h) (λ p. is_same_place p at)) 0 (zero_cut agents) cuts grows
      ∙ kept_gain at (zero_cut agents) (last_cut agents cuts) h ok.in_order)

-- a gain is one at most
reached_at_most : (at : Position) (r : Reading) (m n k : ℕ) → pos k ≡ (reached at r n -ℤ reached at r m) +ℤ pos 0 → k ≤ 1
reached_at_most at r m n k e = by_cases (leb at.seq n) (leb at.seq m) e
  where
    by_cases : (a b : Bool) → pos k ≡ (cond a (pos 1) (pos 0) -ℤ cond b (pos 1) (pos 0)) +ℤ pos 0 → k ≤ 1
    by_cases true true e = omega (arith, ints)
    by_cases true false e = omega (arith, ints)
    by_cases false true e = omega (arith, ints)
    by_cases false false e = omega (arith, ints)

gain_at_most : (at : Position) (from to : Cut) (o : Option Record) (k : ℕ) → pos k ≡ sum_over (record_gain from to) (place_record at o) → k ≤ 1
gain_at_most at from to None k e = omega (arith, ints)
gain_at_most at from to (Some (Reads r)) k e = reached_at_most at r (last_of from at.agent) (last_of to at.agent) k e
gain_at_most at from to (Some (Amends seq index value)) k e = omega (arith, ints)

pub at_most_once : (sheet : Sheet) (issuer : Issuer) (h : Holding) (agents : ℕ) (cuts : List Cut) (at : Position) → IsHolding h → IsGrowing agents cuts →
    length (filter is_new (rows_of_place sheet issuer h agents cuts at)) ≤ 1
at_most_once sheet issuer h agents cuts at ok grows = gain_at_most at _ _ (record_at h at) _ (count_in_all sheet issuer h ok at agents cuts grows)

-- a place that is looked up has a sequence from 1 on
held_from_one : (h : Holding) → All IsWellFormed h → (agent seq : ℕ) (b : Batch) → held h agent seq ≡ Some b → 1 ≤ seq
held_from_one [] all agent seq b e = absurd (cc)
held_from_one (c ∷ h) all agent seq b e = elim (cases_Bool (is_batch_at agent seq c)) [
  | inl at ↦ let well = (All-head IsWellFormed c h all).seq.0 in let place = place_of_batch agent seq c at in omega arith
  | inr other ↦ held_from_one h (All-tail IsWellFormed c h all) agent seq b (sym (cond-false (is_batch_at agent seq c) (Some c) (held h agent seq) other) ∙ e)
]

pub place_from_one : (h : Holding) (at : Position) (r : Reading) → IsHolding h → reading_at h at ≡ Some r → 1 ≤ at.seq
place_from_one h at r ok found = by_batch (held h at.agent at.seq) refl found
  where
    by_batch : (o : Option Batch) → held h at.agent at.seq ≡ o → option_and_then (λ b. option_and_then reading_of (slice_get b.records at.index)) o ≡ Some r → 1 ≤ at.seq
    by_batch None e f = absurd (cc)
    by_batch (Some b) e f = held_from_one h ok.batches at.agent at.seq b e

-- one from the cut on that reaches the reading
reached_from : (at : Position) (r : Reading) (n k : ℕ) → pos k ≡ (reached at r n -ℤ pos 0) +ℤ pos 0 → k ≡ cond (leb at.seq n) 1 0
reached_from at r n k e = by_cases (leb at.seq n) e
  where
    by_cases : (a : Bool) → pos k ≡ (cond a (pos 1) (pos 0) -ℤ pos 0) +ℤ pos 0 → k ≡ cond a 1 0
    by_cases true e = omega (arith, ints)
    by_cases false e = omega (arith, ints)

pub once_if_reached : (sheet : Sheet) (issuer : Issuer) (h : Holding) (agents : ℕ) (cuts : List Cut) (at : Position) (r : Reading) → IsHolding h → IsGrowing agents cuts → reading_at h at ≡ Some r →
    length (filter is_new (rows_of_place sheet issuer h agents cuts at)) ≡ (if nat_le at.seq (last_of (last_cut agents cuts) at.agent) then 1 else 0)
once_if_reached sheet issuer h agents cuts at r ok grows found =
    let from = zero_cut agents in
    let to = last_cut agents cuts in
    let some = place_from_one h at r ok found in
    let first = not_reached at r (last_of from at.agent) (subst (λ n. n < at.seq) (sym (last_of_zero_cut agents at.agent)) (omega arith)) in
    reached_from at r (last_of to at.agent) _
    (count_in_all sheet issuer h ok at agents cuts grows
    ∙ (ap (λ o. sum_over (record_gain from to) (place_record at o)) (record_found h at r found)
    ∙ ap (λ v. (reached at r (last_of to at.agent) -ℤ v) +ℤ pos 0) first))

-- in the period whose cut is the first that reaches the reading
reached_between : (at : Position) (r : Reading) (m n k : ℕ) → m ≤ n → pos k ≡ (reached at r n -ℤ reached at r m) +ℤ pos 0 → k ≡ cond (ltb m at.seq && leb at.seq n) 1 0
reached_between at r m n k up e = grind (arith, ints, nat_tests)

pub once_in_period : (sheet : Sheet) (issuer : Issuer) (h : Holding) (period : ℕ) (from to : Cut) (at : Position) (r : Reading) → IsHolding h → IsAtLeast to from → reading_at h at ≡ Some r →
    length (filter is_new (at_place at (placed_rows sheet issuer h period from to))) ≡ (if nat_lt (last_of from at.agent) at.seq && nat_le at.seq (last_of to at.agent) then 1 else 0)
once_in_period sheet issuer h period from to at r ok up found =
    reached_between at r (last_of from at.agent) (last_of to at.agent) _ (last_of_grows from to at.agent up)
    (count_in_period sheet issuer h ok at period from to up ∙ ap (λ o. sum_over (record_gain from to) (place_record at o)) (record_found h at r found))
