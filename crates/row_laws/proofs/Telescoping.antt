-- What a record adds to the rows of a period is what it is worth at the later cut, less what it is worth at the earlier one. So over growing cuts only the last one counts.
use Rattle.std.proofs.Common.{◌≡◌, ℕ, zero, suc, ◌+◌, ◌<◌, ◌≤◌, cond, leb, List, [], ◌∷◌, map, slice_index, replicate, ℤ, pos, ◌+ℤ◌, ◌-ℤ◌, unwrap_or, Some, None, refl, sym, ap, ap₂, ◌∙◌, arith}
use Rattle.std.specs.List.{enumerate_from, last_or}
use Rattle.std.proofs.lemmas.Bool.{cond-true, cond-false, le-leb, lt-leb}
use Rattle.std.proofs.lemmas.Int.{ints}
use Rattle.metering_model.specs.Batch.{Batch, Record}
use Rattle.metering_model.specs.Cut.{Cut, IsAtLeast, GrowsFrom, zero_cut, last_of}
use Rattle.metering_model.specs.Sheet.{Sheet, Issuer}
use Rattle.metering_model.specs.Holding.{Holding, Placed, records_in_order, placed, up_to}
use Rattle.metering_model.specs.Rows.{PlacedRow, placed_row, placed_rows}
use Rattle.metering_model.specs.Totals.{rows_over}
use Rattle.metering_model.proofs.AgreementLaws.{last_of_grows}
use Rattle.metering_model.proofs.HoldingLaws.{up_to_cases}
use Rattle.metering_model.proofs.RecordPlaces.{place_in}
use Rattle.row_laws.proofs.Sums.{sum_over, sum-append, sum_same, sum_plus, sum_nothing, sum-filter_map, of_option}

-- ---- cuts

index_zeros : (n i : ℕ) → slice_index (replicate n 0) i ≡ 0
index_zeros zero i = refl
index_zeros (suc n) zero = refl
index_zeros (suc n) (suc i) = index_zeros n i

pub last_of_zero_cut : (agents agent : ℕ) → last_of (zero_cut agents) agent ≡ 0
last_of_zero_cut agents zero = refl
last_of_zero_cut agents (suc a) = index_zeros agents a

-- the last of these cuts, or the one before them where there is none
abbrev pub cut_after : Cut → List Cut → Cut
cut_after before cuts = unwrap_or (last_or None cuts) before

last_needs_none : (x a b : Cut) (cuts : List Cut) → unwrap_or (last_or (Some x) cuts) a ≡ unwrap_or (last_or (Some x) cuts) b
last_needs_none x a b [] = refl
last_needs_none x a b (y ∷ ys) = last_needs_none y a b ys

-- behind a first cut the one before it counts no more
cut_after_first : (before cut : Cut) (cuts : List Cut) → cut_after cut cuts ≡ cut_after before (cut ∷ cuts)
cut_after_first before cut [] = refl
cut_after_first before cut (x ∷ xs) = last_needs_none x cut before xs

-- ---- sums over the records up to a cut

-- an amount that counts only up to a cut
abbrev pub within : Cut → (Placed → ℤ) → Placed → ℤ
within cut f x = cond (leb x.place.seq (last_of cut x.place.agent)) (f x) (pos 0)

all_within : (cut : Cut) (f : Placed → ℤ) (b : Batch) → b.seq ≤ last_of cut b.agent → (es : List (ℕ × Record)) → sum_over f (map (place_in b) es) ≡ sum_over (within cut f) (map (place_in b) es)
all_within cut f b in_cut [] = refl
all_within cut f b in_cut (e ∷ es) =
    let rest = all_within cut f b in_cut es in
    let here : within cut f (place_in b e) ≡ f (place_in b e) = cond-true _ (f (place_in b e)) (pos 0) (le-leb b.seq (last_of cut b.agent) in_cut) in
    omega (arith, ints)

none_within : (cut : Cut) (f : Placed → ℤ) (b : Batch) → last_of cut b.agent < b.seq → (es : List (ℕ × Record)) → sum_over (within cut f) (map (place_in b) es) ≡ pos 0
none_within cut f b beyond [] = refl
none_within cut f b beyond (e ∷ es) =
    let rest = none_within cut f b beyond es in
    let here : within cut f (place_in b e) ≡ pos 0 = cond-false _ (f (place_in b e)) (pos 0) (lt-leb b.seq (last_of cut b.agent) beyond) in
    omega (arith, ints)

pub sum-up_to : (cut : Cut) (f : Placed → ℤ) (h : Holding) → sum_over f (records_in_order (up_to cut h)) ≡ sum_over (within cut f) (records_in_order h)
sum-up_to cut f [] = refl
sum-up_to cut f (b ∷ h) =
    let rest = sum-up_to cut f h in
    let joined = sum-append (within cut f) (placed b) (records_in_order h) in
    up_to_cases (λ k. sum_over f (records_in_order k) ≡ sum_over (within cut f) (records_in_order (b ∷ h))) cut b h
    (λ in_cut.
    let first = all_within cut f b in_cut (enumerate_from 0 b.records) in
    let both = sum-append f (placed b) (records_in_order (up_to cut h)) in
    omega (arith, ints))
    (λ beyond. let first = none_within cut f b beyond (enumerate_from 0 b.records) in omega (arith, ints))

-- ---- periods

-- what a record is worth at the later cut, less what it was worth at the earlier one
abbrev pub gain : (Placed → ℕ → ℤ) → Cut → Cut → Placed → ℤ
gain worth from to x = worth x (last_of to x.place.agent) -ℤ worth x (last_of from x.place.agent)

-- Each record adds its gain to what the rows of a period amount to.
pub record AddsGains (sheet : Sheet) (issuer : Issuer) (h : Holding) (amount : PlacedRow → ℤ) (worth : Placed → ℕ → ℤ) : Type 0 where
  pub adds : (period : ℕ) (from to : Cut) (x : Placed) → last_of from x.place.agent ≤ last_of to x.place.agent →
      within to (λ y. of_option amount (placed_row sheet issuer h period from to y)) x ≡ gain worth from to x

module _ (sheet : Sheet) (issuer : Issuer) (h : Holding) (amount : PlacedRow → ℤ) (worth : Placed → ℕ → ℤ) (gains : AddsGains sheet issuer h amount worth) where
  -- one period
  pub sum_of_period : (period : ℕ) (from to : Cut) → IsAtLeast to from →
      sum_over amount (placed_rows sheet issuer h period from to) ≡ sum_over (gain worth from to) (records_in_order h)
  sum_of_period period from to grows =
      sum-filter_map amount (placed_row sheet issuer h period from to) (records_in_order (up_to to h))
      ∙ (sum-up_to to (λ y. of_option amount (placed_row sheet issuer h period from to y)) h
      ∙ sum_same _ (gain worth from to) (λ x. gains.adds period from to x (last_of_grows from to x.place.agent grows)) (records_in_order h))

  -- gains from one cut to the same are none, and gains over two periods add up
  no_gain : (cut : Cut) → pos 0 ≡ sum_over (gain worth cut cut) (records_in_order h)
  no_gain cut = sym (sum_same (gain worth cut cut) (λ x. pos 0) (λ x. nothing (worth x (last_of cut x.place.agent))) (records_in_order h) ∙ sum_nothing (records_in_order h))
    where
      nothing : (a : ℤ) → a -ℤ a ≡ pos 0
      nothing a = omega (arith, ints)

  gains_add : (a b c : Cut) → sum_over (gain worth a b) (records_in_order h) +ℤ sum_over (gain worth b c) (records_in_order h) ≡ sum_over (gain worth a c) (records_in_order h)
  gains_add a b c =
      sum_plus (gain worth a b) (gain worth b c) (records_in_order h)
      ∙ sum_same _ (gain worth a c) (λ x. telescope (worth x (last_of a x.place.agent)) (worth x (last_of b x.place.agent)) (worth x (last_of c x.place.agent))) (records_in_order h)
    where
      telescope : (u v w : ℤ) → (v -ℤ u) +ℤ (w -ℤ v) ≡ w -ℤ u
      telescope u v w = omega (arith, ints)

  -- all periods
  pub sum_of_periods : (period : ℕ) (before : Cut) (cuts : List Cut) → GrowsFrom before cuts →
      sum_over amount (rows_over sheet issuer h period before cuts) ≡ sum_over (gain worth before (cut_after before cuts)) (records_in_order h)
  sum_of_periods period before [] grows = no_gain before
  sum_of_periods period before (cut ∷ cuts) grows =
      let first = sum_of_period period before cut grows.0 in
      let rest = sum_of_periods (period + 1) cut cuts grows.1 in
      sum-append amount (placed_rows sheet issuer h period before cut) (rows_over sheet issuer h (period + 1) cut cuts)
      ∙ (ap₂ ◌+ℤ◌ first rest ∙ gains_add before cut (cut_after cut cuts))
      ∙ ap (λ c. sum_over (gain worth before c) (records_in_order h)) (cut_after_first before cut cuts)
