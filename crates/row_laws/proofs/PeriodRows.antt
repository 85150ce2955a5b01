-- The rows of one place in one period.
use Rattle.std.proofs.Common.{◌≡◌, ℕ, ◌<◌, ◌≤◌, Bool, true, false, cond, leb, List, [], ◌∷◌, map, filter, length, Option, Some, None, option_map, refl, sym, ap, subst, ◌∙◌, arith, inl, inr}
use Rattle.std.specs.Prelude.{nat_le, if◌then◌else◌, slice_get}
use Rattle.std.specs.List.{filter_map, cons_option}
use Rattle.std.specs.Option.{option_to_list, option_and_then}
use Rattle.std.proofs.lemmas.Bool.{cond-true, cond-false, cases_Bool, leb-true, leb-false}
use Rattle.std.proofs.lemmas.List.{length-map}
use Rattle.std.proofs.lemmas.Option.{same_Some}
use Rattle.metering_model.specs.Batch.{Batch, Record, Reading, Reads, Amends}
use Rattle.metering_model.specs.Cut.{Cut, last_of}
use Rattle.metering_model.specs.Sheet.{Sheet, Issuer}
use Rattle.metering_model.specs.Holding.{Holding, IsHolding, Position, Placed, records_in_order, is_same_place, reading_of, reading_at, held, up_to}
use Rattle.metering_model.specs.Row.{Row}
use Rattle.metering_model.specs.Totals.{at_place}
use Rattle.metering_model.specs.Rows.{PlacedRow, row_of, row_of_reading, placed_row, placed_rows}
use Rattle.metering_model.proofs.HoldingLaws.{IsHolding-up_to, held-up_to, held-up_to_beyond}
use Rattle.metering_model.proofs.RecordPlaces.{stands_at, place_record, record_at, records_at, record_found}

-- a filter of what a map keeps is a map of what a filter keeps
filter-filter_map : {A B : Type 0} (g : A → Option B) (p : A → Bool) (q : B → Bool) → ((x : A) (y : B) → g x ≡ Some y → q y ≡ p x) → (xs : List A) → filter q (filter_map g xs) ≡ filter_map g (filter p xs)
filter-filter_map g p q same [] = refl
filter-filter_map {A} {B} g p q same (x ∷ xs) =
    first (g x) refl
    ∙ (ap (λ ys. cond (p x) (cons_option (g x) ys) ys) (filter-filter_map g p q same xs)
    ∙ sym (through (p x)))
  where
    first : (o : Option B) → g x ≡ o → filter q (cons_option (g x) (filter_map g xs)) ≡ cond (p x) (cons_option (g x) (filter q (filter_map g xs))) (filter q (filter_map g xs))
    first None e = ap (λ o. filter q (cons_option o (filter_map g xs))) e ∙ (nothing (p x) ∙ sym (ap (λ o. cond (p x) (cons_option o (filter q (filter_map g xs))) (filter q (filter_map g xs))) e))
      where
        nothing : (b : Bool) → filter q (filter_map g xs) ≡ cond b (filter q (filter_map g xs)) (filter q (filter_map g xs))
        nothing true = refl
        nothing false = refl
    first (Some y) e =
        ap (λ o. filter q (cons_option o (filter_map g xs))) e
        ∙ (ap (λ b. cond b (y ∷ filter q (filter_map g xs)) (filter q (filter_map g xs))) (same x y e)
        ∙ sym (ap (λ o. cond (p x) (cons_option o (filter q (filter_map g xs))) (filter q (filter_map g xs))) e))

    through : (b : Bool) → filter_map g (cond b (x ∷ filter p xs) (filter p xs)) ≡ cond b (cons_option (g x) (filter_map g (filter p xs))) (filter_map g (filter p xs))
    through true = refl
    through false = refl

module _ (sheet : Sheet) (issuer : Issuer) (h : Holding) (ok : IsHolding h) (period : ℕ) (from to : Cut) (at : Position) where
  keeps_place : (x : Placed) (y : PlacedRow) → placed_row sheet issuer h period from to x ≡ Some y → is_same_place y.place at ≡ stands_at at x
  keeps_place x y e = by_row (row_of sheet issuer h period from to x.place x.what) e
    where
      by_row : (o : Option Row) → option_map (λ (r : Row). let p : PlacedRow = record { place = x.place; row = r } in p) o ≡ Some y → is_same_place y.place at ≡ stands_at at x
      by_row None f = absurd (cc)
      by_row (Some r) f = let same : ◌≡◌ {A = PlacedRow} (record { place = x.place; row = r }) y = same_Some _ y f in sym (ap (λ (z : PlacedRow). is_same_place z.place at) same)

  rows_there : filter (λ y. is_same_place y.place at) (placed_rows sheet issuer h period from to) ≡ filter_map (placed_row sheet issuer h period from to) (place_record at (record_at (up_to to h) at))
  rows_there =
      filter-filter_map (placed_row sheet issuer h period from to) (stands_at at) (λ y. is_same_place y.place at) keeps_place (records_in_order (up_to to h))
      ∙ ap (filter_map (placed_row sheet issuer h period from to)) (records_at (up_to to h) (IsHolding-up_to h to ok).in_order at)

  one_row_at_most : length (filter (λ y. is_same_place y.place at) (placed_rows sheet issuer h period from to)) ≤ 1
  one_row_at_most = rw rows_there (at_most (record_at (up_to to h) at))
    where
      one : (o : Option PlacedRow) → length (cons_option o []) ≤ 1
      one None = omega arith
      one (Some y) = omega arith

      at_most : (o : Option Record) → length (filter_map (placed_row sheet issuer h period from to) (place_record at o)) ≤ 1
      at_most None = omega arith
      at_most (Some what) = one (placed_row sheet issuer h period from to (record { place = at; what = what }))

  -- which row it is
  pub row_there : (r : Reading) → reading_at h at ≡ Some r →
      map (λ y. y.row) (filter (λ y. is_same_place y.place at) (placed_rows sheet issuer h period from to))
      ≡ (if nat_le at.seq (last_of to at.agent) then option_to_list (row_of_reading sheet issuer h period from to at r) else [])
  row_there r found =
      ap (map (λ (y : PlacedRow). y.row)) rows_there
      ∙ elim (cases_Bool (leb at.seq (last_of to at.agent))) [
        | inl t ↦ looked t (leb-true _ _ t)
        | inr f ↦ missed f (leb-false _ _ f)
      ]
    where
      as_list : (o : Option Row) → map (λ (y : PlacedRow). y.row) (cons_option (option_map (λ (x : Row). let p : PlacedRow = record { place = at; row = x } in p) o) []) ≡ option_to_list o
      as_list None = refl
      as_list (Some x) = refl

      looked : nat_le at.seq (last_of to at.agent) ≡ true → at.seq ≤ last_of to at.agent →
          map (λ (y : PlacedRow). y.row) (filter_map (placed_row sheet issuer h period from to) (place_record at (record_at (up_to to h) at))) ≡ (if nat_le at.seq (last_of to at.agent) then option_to_list (row_of_reading sheet issuer h period from to at r) else [])
      looked t within =
          ap (λ o. map (λ (y : PlacedRow). y.row) (filter_map (placed_row sheet issuer h period from to) (place_record at o)))
          (ap (option_and_then (λ b. slice_get b.records at.index)) (held-up_to to h at.agent at.seq within) ∙ record_found h at r found)
          ∙ (as_list (row_of_reading sheet issuer h period from to at r)
          ∙ sym (cond-true (nat_le at.seq (last_of to at.agent)) (option_to_list (row_of_reading sheet issuer h period from to at r)) [] t))

      missed : nat_le at.seq (last_of to at.agent) ≡ false → last_of to at.agent < at.seq →
          map (λ (y : PlacedRow). y.row) (filter_map (placed_row sheet issuer h period from to) (place_record at (record_at (up_to to h) at))) ≡ (if nat_le at.seq (last_of to at.agent) then option_to_list (row_of_reading sheet issuer h period from to at r) else [])
      missed f beyond =
          ap (λ o. map (λ (y : PlacedRow). y.row) (filter_map (placed_row sheet issuer h period from to) (place_record at (option_and_then (λ b. slice_get b.records at.index) o)))) (held-up_to_beyond to h at.agent at.seq beyond)
          ∙ sym (cond-false (nat_le at.seq (last_of to at.agent)) (option_to_list (row_of_reading sheet issuer h period from to at r)) [] f)

  -- where no reading is, there is no row
  no_row : (o : Option Record) → option_and_then reading_of o ≡ None → map (λ (y : PlacedRow). y.row) (filter_map (placed_row sheet issuer h period from to) (place_record at o)) ≡ []
  no_row None e = refl
  no_row (Some (Reads r)) e = absurd (cc)
  no_row (Some (Amends seq index value)) e = refl

  no_row_of_batch : (o : Option Batch) → option_and_then (λ b. option_and_then reading_of (slice_get b.records at.index)) o ≡ None →
      map (λ (y : PlacedRow). y.row) (filter_map (placed_row sheet issuer h period from to) (place_record at (option_and_then (λ b. slice_get b.records at.index) o))) ≡ []
  no_row_of_batch None e = refl
  no_row_of_batch (Some b) e = no_row (slice_get b.records at.index) e

  pub no_row_there : reading_at h at ≡ None → at_place at (placed_rows sheet issuer h period from to) ≡ []
  no_row_there none =
      let reads = λ (o : Option Batch). option_and_then (λ b. option_and_then reading_of (slice_get b.records at.index)) o in
      ap (map (λ (y : PlacedRow). y.row)) rows_there
      ∙ no_row_of_batch (held (up_to to h) at.agent at.seq)
      (elim (cases_Bool (leb at.seq (last_of to at.agent))) [
        | inl t ↦ ap reads (held-up_to to h at.agent at.seq (leb-true _ _ t)) ∙ none
        | inr f ↦ ap reads (held-up_to_beyond to h at.agent at.seq (leb-false _ _ f))
      ])

  pub at_most_one_row : length (at_place at (placed_rows sheet issuer h period from to)) ≤ 1
  at_most_one_row =
      let many : length (at_place at (placed_rows sheet issuer h period from to))
      ≡ length (filter (λ y. is_same_place y.place at) (placed_rows sheet issuer h period from to)) = length-map
      (filter (λ y. is_same_place y.place at) (placed_rows sheet issuer h period from to)) (λ (y : PlacedRow). y.row) in
      subst (λ n. n ≤ 1) (sym many) one_row_at_most
