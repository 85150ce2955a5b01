-- A reading is charged for the first time in the one period whose cuts it stands between.
use Rattle.std.proofs.Common.{◌≡◌, ℕ, zero, suc, ◌<◌, ◌≤◌, Bool, true, false, List, [], ◌∷◌, ◌++◌, map, refl, sym, ap, subst, ◌∙◌, Option, Some, None, option_map, nat_lt, nat_le, ℤ, pos}
use Rattle.std.specs.Prelude.{slice_get, if◌then◌else◌}
use Rattle.std.specs.List.{list_all, enumerate_from, filter_map, cons_option}
use Rattle.std.proofs.lemmas.Bool.{and_parts, and_from, ltb-true, leb-true, cond_both}
use Rattle.std.proofs.lemmas.Option.{same_Some, none-some}
use Rattle.metering_model.specs.Batch.{Batch, Record, Reads, Amends}
use Rattle.metering_model.specs.Sheet.{Sheet, Issuer}
use Rattle.metering_model.specs.Cut.{Cut, last_of}
use Rattle.metering_model.specs.Holding.{Holding, Position, Placed, placed, records_in_order, up_to}
use Rattle.metering_model.specs.ValueAtSequence.{value_at}
use Rattle.metering_model.specs.declared.ChargeClass.TheVariants.{New, Correction}
use Rattle.metering_model.specs.Row.{Row, row}
use Rattle.metering_model.specs.Rows.{differ, row_of, PlacedRow, placed_row, placed_rows}

-- ---- where a row comes from

abbrev is_within : Cut → Placed → Bool
is_within to x = nat_le x.place.seq (last_of to x.place.agent)

all_append : (test : Placed → Bool) (xs ys : List Placed) → list_all test xs ≡ true → list_all test ys ≡ true → list_all test (xs ++ ys) ≡ true
all_append test [] ys h k = k
all_append test (x ∷ xs) ys h k = let parts = and_parts (test x) (list_all test xs) h in and_from (test x) (list_all test (xs ++ ys)) parts.0 (all_append test xs ys parts.1 k)

abbrev place_in : Batch → ℕ × Record → Placed
place_in b e = record { place = record { agent = b.agent; seq = b.seq; index = e.0 }; what = e.1 }

placed_within : (to : Cut) (b : Batch) (es : List (ℕ × Record)) → nat_le b.seq (last_of to b.agent) ≡ true → list_all (is_within to) (map (place_in b) es) ≡ true
placed_within to b [] h = refl
placed_within to b (e ∷ es) h = and_from (is_within to (place_in b e)) (list_all (is_within to) (map (place_in b) es)) h (placed_within to b es h)

-- the records up to a cut are at places up to it
records_within : (to : Cut) (h : Holding) → list_all (is_within to) (records_in_order (up_to to h)) ≡ true
records_within to [] = refl
records_within to (b ∷ h) =
    let rest = records_within to h in
    cond_both (nat_le b.seq (last_of to b.agent)) (b ∷ up_to to h) (up_to to h) (λ k. list_all (is_within to) (records_in_order k) ≡ true)
    (λ e. all_append (is_within to) (placed b) (records_in_order (up_to to h)) (placed_within to b (enumerate_from 0 b.records) e) rest)
    (λ _. rest)

-- what is in a list that was filtered comes from an element that passes what all pass
pub record ComesFrom (f : Placed → Option PlacedRow) (test : Placed → Bool) (y : PlacedRow) : Type 0 where
  pub source : Placed
  pub gives : f source ≡ Some y
  pub passes : test source ≡ true

comes_from : (f : Placed → Option PlacedRow) (test : Placed → Bool) (xs : List Placed) (k : ℕ) (y : PlacedRow) → list_all test xs ≡ true → slice_get (filter_map f xs) k ≡ Some y → ComesFrom f test y
comes_from f test [] k y all e = absurd (none-some y e)
comes_from f test (x ∷ xs) k y all e =
    let parts = and_parts (test x) (list_all test xs) all in
    by_given (f x) refl k parts.0 (λ j. comes_from f test xs j y parts.1) e
  where
    by_given : (o : Option PlacedRow) → f x ≡ o → (k : ℕ) → test x ≡ true → ((j : ℕ) → slice_get (filter_map f xs) j ≡ Some y → ComesFrom f test y) → slice_get (cons_option o (filter_map f xs)) k ≡ Some y → ComesFrom f test y
    by_given None is k t rest e = rest k e
    by_given (Some z) is zero t rest e = record { source = x; gives = is ∙ e; passes = t }
    by_given (Some z) is (suc j) t rest e = rest j e

-- ---- a new row is of a reading between the cuts

pub record IsBetween (from to : Cut) (at : Position) : Type 0 where
  pub above : last_of from at.agent < at.seq
  pub within : at.seq ≤ last_of to at.agent

module _ (sheet : Sheet) (issuer : Issuer) (h : Holding) (period : ℕ) (from to : Cut) where
  new_above : (at : Position) (what : Record) (r : Row) → row_of sheet issuer h period from to at what ≡ Some r → r.charge_class ≡ None → last_of from at.agent < at.seq
  new_above at (Amends seq index value) r e new = absurd (none-some r e)
  new_above at (Reads reading) r e new = by_test (nat_lt (last_of from at.agent) at.seq) refl e
    where
      was : ℤ
      was = value_at h at (last_of from at.agent)

      now : ℤ
      now = value_at h at (last_of to at.agent)

      by_differ : (t : Bool) (was now : ℤ) → (if t then Some (row sheet issuer reading period Correction was now) else None) ≡ Some r → ⊥
      by_differ true was now f = none-some _ (sym new ∙ sym (ap (λ (x : Row). x.charge_class) (same_Some _ _ f)))
      by_differ false was now f = none-some r f

      by_test : (t : Bool) → nat_lt (last_of from at.agent) at.seq ≡ t
          → (if t then Some (row sheet issuer reading period New (pos 0) (value_at h at (last_of to at.agent))) else
          (if differ (value_at h at (last_of from at.agent)) (value_at h at (last_of to at.agent)) then Some
          (row sheet issuer reading period Correction (value_at h at (last_of from at.agent)) (value_at h at (last_of to at.agent))) else None)) ≡ Some r
          → last_of from at.agent < at.seq
      by_test true is f = ltb-true (last_of from at.agent) at.seq is
      by_test false is f = absurd (by_differ (differ (value_at h at (last_of from at.agent)) (value_at h at (last_of to at.agent))) (value_at h at (last_of from at.agent)) (value_at h at (last_of to at.agent)) f)

  -- a placed row is of its record
  pub row_parts : (x : Placed) (y : PlacedRow) → placed_row sheet issuer h period from to x ≡ Some y → (x.place ≡ y.place) × (row_of sheet issuer h period from to x.place x.what ≡ Some y.row)
  row_parts x y e = by_row (row_of sheet issuer h period from to x.place x.what) e
    where
      by_row : (o : Option Row) → option_map (λ (r : Row). record { place = x.place; row = r }) o ≡ Some y → (x.place ≡ y.place) × (o ≡ Some y.row)
      by_row None f = absurd (none-some y f)
      by_row (Some r) f = let same = same_Some _ y f in (ap (λ (z : PlacedRow). z.place) same, ap (λ (z : PlacedRow). Some z.row) same)

  pub new_between : (k : ℕ) (y : PlacedRow) → slice_get (placed_rows sheet issuer h period from to) k ≡ Some y → y.row.charge_class ≡ None → IsBetween from to y.place
  new_between k y e new =
      let source = comes_from (placed_row sheet issuer h period from to) (is_within to) (records_in_order (up_to to h)) k y (records_within to h) e in
      let parts = row_parts source.source y source.gives in
      subst (IsBetween from to) parts.0 (record { above = new_above source.source.place source.source.what y.row parts.1 new; within = leb-true _ _ source.passes })
