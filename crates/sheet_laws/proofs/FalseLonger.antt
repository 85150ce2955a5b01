-- Sheets that lack one part of what makes a sheet longer: then it does not go on, does not price all, or names a region otherwise.
use Rattle.std.proofs.Common.{◌≡◌, ℕ, List, [], ◌∷◌, length, refl, sym, ap, arith, Option, Some, None, option_map, codes, pos, ℤ, ◌*ℤ◌, ◌+ℤ◌, true, false}
use Rattle.std.specs.Prelude.{All}
use Rattle.std.specs.Option.{is_some}
use Rattle.std.proofs.lemmas.Bool.{true≢false}
use Rattle.std.proofs.lemmas.Int.{ints}
use Rattle.std.proofs.lemmas.Option.{same_Some, none-some}
use Rattle.std.proofs.lemmas.List.Elements.{All-nil, All-cons}
use Rattle.metering_model.specs.declared.Kind.TheVariants.{Usage}
use Rattle.metering_model.specs.Batch.{Reading}
use Rattle.metering_model.specs.Sheet.{PriceRow, Sheet}
use Rattle.metering_model.specs.PriceInForce.{price_in_force, commitment_with, region_named}
use Rattle.metering_model.proofs.Samples.{cpu, ops, cpu_plan, cm_1}
use Rattle.sheet_laws.specs.Longer.{GoesOnFrom, NamesAlike, IsLonger, rows_before, rows_of_known}
use Rattle.sheet_laws.specs.Runs.{PricesAllOf}
use Rattle.sheet_laws.proofs.TwoSheets.{february_1, may_1, old_sheet, with_gpu}
use Rattle.sheet_laws.proofs.OtherSheets.{of_another_base, with_another_price, with_another_name}

-- ---- the parts, which are those of `IsLonger`

abbrev Base : Sheet → Sheet → Type 0
Base old new = new.base ≡ old.base

abbrev Before : ℤ → Sheet → Sheet → Type 0
Before day old new = rows_of_known day old new ≡ rows_before day old

abbrev Still : Sheet → Sheet → Type 0
Still old new = All (λ p. is_some (price_in_force new p.sku p.from) ≡ true) old.prices

abbrev Commitments : Sheet → Sheet → Type 0
Commitments old new = All (λ c. commitment_with new c.id ≡ Some c) old.commitments

abbrev Regions : Sheet → Sheet → Type 0
Regions old new = All (λ x. region_named new x.id ≡ Some x.name) old.regions

are_all : (day : ℤ) (old new : Sheet) → Base old new → Before day old new → Still old new → Commitments old new → Regions old new → IsLonger day old new
are_all day old new base before still commitments regions = record { base = base; before = before; still = still; commitments = commitments; regions = regions }

abbrev without_commitments : Sheet
without_commitments = record old_sheet { commitments = [] }

abbrev HasCm1 : Sheet → Type 0
HasCm1 sheet = All (λ c. commitment_with sheet c.id ≡ Some c) (cm_1 ∷ [])

has_cm_1 : (sheet : Sheet) → commitment_with sheet (codes "cm-1") ≡ Some cm_1 → HasCm1 sheet
has_cm_1 sheet e = All-cons (λ c. commitment_with sheet c.id ≡ Some c) cm_1 [] e (All-nil (λ c. commitment_with sheet c.id ≡ Some c))

-- ---- to go on

abbrev GoesOnBy : (ℤ → Sheet → Sheet → Type 0) → Type 0
GoesOnBy Parts = (day : ℤ) (old new : Sheet) → Parts day old new → GoesOnFrom day old new

goes_on_of_any_base : GoesOnBy (λ day old new. Before day old new × Commitments old new) → ⊥
goes_on_of_any_base law =
    let base : 24_299 ≡ 24_300 = (law february_1 old_sheet of_another_base (refl, has_cm_1 of_another_base refl)).base in
    omega (arith, base)

abbrev contracted_of : Option PriceRow → Option ℕ
contracted_of o = option_map (λ p. p.contracted) o

goes_on_of_any_price : GoesOnBy (λ day old new. Base old new × Commitments old new) → ⊥
goes_on_of_any_price law =
    let goes = law february_1 old_sheet with_another_price (refl, has_cm_1 with_another_price refl) in
    let same = goes.prices (codes "cpu") (pos 20_100) cpu (grind (arith, ints)) refl in
    let contracted : 90_000 ≡ 80_000 = same_Some 90_000 80_000 (ap contracted_of same) in
    omega (arith, contracted)

goes_on_of_any_commitments : GoesOnBy (λ day old new. Base old new × Before day old new) → ⊥
goes_on_of_any_commitments law = none-some cm_1 ((law february_1 old_sheet without_commitments (refl, refl)).commitments (codes "cm-1") cm_1 refl)

-- ---- to price all

abbrev used : List ℕ → ℤ → List ℕ → Reading
used sku day commitment = record {
  kind = Usage;
  start = pos 86_400 *ℤ day;
  end = pos 86_400 *ℤ day +ℤ pos 3_600;
  start_text = [];
  end_text = [];
  account = [];
  resource = [];
  key = sku;
  value = pos 0;
  commitment = commitment;
  tags = [];
  region = None;
}

abbrev PricesBy : (ℤ → Sheet → Sheet → Type 0) → Type 0
PricesBy Parts = (day : ℤ) (old new : Sheet) → Parts day old new → PricesAllOf old new

prices_without_later_rows : PricesBy (λ day old new. Base old new × Before day old new × Commitments old new) → ⊥
prices_without_later_rows law =
    let fit : false ≡ true = law february_1 with_gpu old_sheet (refl, refl, has_cm_1 old_sheet refl) (used (codes "gpu") may_1 []) refl in
    true≢false (sym fit)

prices_without_commitments : PricesBy (λ day old new. Base old new × Before day old new × Still old new) → ⊥
prices_without_commitments law =
    let fit : false ≡ true = law february_1 old_sheet without_commitments (refl, refl, still) (used (codes "cpu") (pos 20_100) (codes "cm-1")) refl in
    true≢false (sym fit)
  where
    Has : PriceRow → Type 0
    Has p = is_some (price_in_force without_commitments p.sku p.from) ≡ true

    still : All Has old_sheet.prices
    still = All-cons Has cpu (ops ∷ cpu_plan ∷ []) refl (All-cons Has ops (cpu_plan ∷ []) refl (All-cons Has cpu_plan [] refl (All-nil Has)))

-- ---- to name alike

abbrev NamedWhateverIsNamed : Type 0
NamedWhateverIsNamed = (day : ℤ) (old new : Sheet) → Base old new → Before day old new → Still old new → Commitments old new →
    (id name : List ℕ) → region_named old id ≡ Some name → NamesAlike old new id

named_whatever_is_named : NamedWhateverIsNamed → ⊥
named_whatever_is_named law =
    let same = law february_1 old_sheet with_another_name refl refl still (has_cm_1 with_another_name refl) (codes "eu-1") (codes "Europe 1") refl in
    let long : 10 ≡ 8 = ap length (same_Some (codes "Europe One") (codes "Europe 1") same) in
    omega (arith, long)
  where
    Has : PriceRow → Type 0
    Has p = is_some (price_in_force with_another_name p.sku p.from) ≡ true

    still : All Has old_sheet.prices
    still = All-cons Has cpu (ops ∷ cpu_plan ∷ []) refl (All-cons Has ops (cpu_plan ∷ []) refl (All-cons Has cpu_plan [] refl (All-nil Has)))
