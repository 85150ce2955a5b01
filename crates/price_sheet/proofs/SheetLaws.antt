-- What is read of the tables of a sheet is a sheet.
use Rattle.std.proofs.Common.{◌≡◌, ℕ, ◌+◌, Bool, true, false, not, ◌&&◌, ◌||◌, ◌==◌, List, [], ◌∷◌, ◌++◌, length, All, Result, Ok, Err, int_eq, refl, ap, subst, ◌∙◌, length-append, arith}
use Rattle.std.specs.List.{list_any}
use Rattle.std.specs.Cmp.{nat_eq_equiv, int_eq_equiv}
use Rattle.std.proofs.lemmas.Bool.{and_parts, and_from}
use Rattle.std.proofs.lemmas.List.Elements.{All-nil, All-push}
use Rattle.std.proofs.lemmas.List.Folds.{list_any-append}
use Rattle.toml.specs.Data.{Members}
use Rattle.metering_model.specs.BatchReading.{is_same}
use Rattle.metering_model.specs.Sheet.{PriceRow, Commitment, Region, Sheet}
use Rattle.metering_model.specs.SheetRules.{IsPriceRow, IsCommitment, IsRegion, IsSheet, are_apart, has_same_key, has_same_id, has_same_region}
use Rattle.metering_model.proofs.StepLaws.{step_ok, step_iff, ok_same}
use Rattle.sheet_text.specs.declared.keys.KeyFault.{KeyFault}
use Rattle.sheet_text.specs.declared.names.Key.TheVariants as keys
use Rattle.price_sheet.specs.SheetReading.{at_place, next_price, next_commitment, next_region, prices_in, commitments_in, regions_in, prices_sku, sheet_of_rows, sheet_in}
use Rattle.sheet_text.specs.declared.faults.Place.{Place}
use Rattle.sheet_text.specs.declared.faults.Place.TheVariants as places
use Rattle.sheet_text.specs.declared.faults.SheetFault.{SheetFault}
use Rattle.sheet_text.specs.Keys.{base_under, rows_under}
use Rattle.sheet_text.proofs.KeyLaws.{holds_true, base_is_read, few_under}
use Rattle.sheet_text.proofs.RowLaws.{price_row_read, commitment_read, region_read}

placed_ok : {A : Type 0} (place : Place) (r : Result A KeyFault) (x : A) → at_place place r ≡ Ok x → r ≡ Ok x
placed_ok place (Ok y) x h = cc
placed_ok place (Err e) x h = absurd (cc)

-- ---- rows that are apart

neither : (a b : Bool) → (a || b) ≡ false → (a ≡ false) × (b ≡ false)
neither true b h = absurd (cc)
neither false b h = (refl, h)

not_false : (b : Bool) → not b ≡ true → b ≡ false
not_false true h = absurd (cc)
not_false false h = refl

pub same_comm : (xs ys : List ℕ) → is_same xs ys ≡ is_same ys xs
same_comm [] [] = refl
same_comm [] (y ∷ ys) = refl
same_comm (x ∷ xs) [] = refl
same_comm (x ∷ xs) (y ∷ ys) = ap (λ b. b && is_same xs ys) (nat_eq_equiv.symm x y) ∙ ap (λ b. (y == x) && b) (same_comm xs ys)

key_comm : (p q : PriceRow) → has_same_key p q ≡ has_same_key q p
key_comm p q = ap (λ b. b && int_eq p.from q.from) (same_comm p.sku q.sku) ∙ ap (λ b. is_same q.sku p.sku && b) (int_eq_equiv.symm p.from q.from)

apart_push : {A : Type 0} (alike : A → A → Bool) (comm : (x y : A) → alike x y ≡ alike y x) (xs : List A) (x : A) → are_apart alike xs ≡ true → list_any (alike x) xs ≡ false → are_apart alike (xs ++ x ∷ []) ≡ true
apart_push alike comm [] x h none = refl
apart_push alike comm (y ∷ xs) x h none =
    let parts = and_parts _ _ h in
    let others = neither (alike x y) _ none in
    let here : list_any (alike y) (xs ++ x ∷ []) ≡ false = list_any-append (alike y) xs (x ∷ []) ∙ rw (not_false (list_any (alike y) xs) parts.0, comm y x, others.0) refl in
    and_from _ _ (ap not here) (apart_push alike comm xs x parts.1 others.1)

-- ---- the prices

record ArePrices (prices : List PriceRow) : Type 0 where
  pub rows : All IsPriceRow prices
  pub apart : are_apart has_same_key prices ≡ true

one_more_price : (rows : List PriceRow) (table : Members) (row : PriceRow) → ArePrices rows → next_price rows table ≡ Ok row → ArePrices (rows ++ row ∷ [])
unfolding next_price
one_more_price rows table row are h =
    let read = simp step_iff at h in
    let same = ok_same read.0 row read.2.2 in
    let new = not_false (list_any (has_same_key read.0) rows) (holds_true _ _ _ read.2.1) in
    subst (λ r. ArePrices (rows ++ r ∷ [])) same (record {
      rows = All-push IsPriceRow rows read.0 are.rows (price_row_read table read.0 (placed_ok _ _ read.0 read.1));
      apart = apart_push has_same_key key_comm rows read.0 are.apart new;
    })

one_behind : {A : Type 0} (xs : List A) (x : A) → length (xs ++ x ∷ []) ≡ length xs + 1
one_behind xs x = length-append xs (x ∷ [])

prices_read : (rows : List PriceRow) (tables : List Members) (all : List PriceRow) → ArePrices rows → prices_in rows tables ≡ Ok all → ArePrices all × (length all ≡ length rows + length tables)
prices_read rows [] all are h = subst (λ r. ArePrices r × (length r ≡ length rows + 0)) (ok_same rows all h) (are, omega arith)
prices_read rows (table ∷ tables) all are h =
    let step = step_ok (next_price rows table) _ all h in
    let rest = prices_read (rows ++ step.0 ∷ []) tables all (one_more_price rows table step.0 are step.1) step.2 in
    (rest.0, omega (arith, rest.1, one_behind rows step.0))

-- ---- the commitments

record AreCommitments (prices : List PriceRow) (commitments : List Commitment) : Type 0 where
  pub rows : All IsCommitment commitments
  pub apart : are_apart has_same_id commitments ≡ true
  pub priced : All (λ c. (prices_sku prices c.sku && prices_sku prices c.buy) ≡ true) commitments

one_more_commitment : (prices : List PriceRow) (rows : List Commitment) (table : Members) (row : Commitment) → AreCommitments prices rows → next_commitment prices rows table ≡ Ok row → AreCommitments prices (rows ++ row ∷ [])
unfolding next_commitment
one_more_commitment prices rows table row are h =
    let read = simp step_iff at h in
    let same = ok_same read.0 row read.2.2.2.2 in
    let new = not_false (list_any (has_same_id read.0) rows) (holds_true _ _ _ read.2.1) in
    subst (λ r. AreCommitments prices (rows ++ r ∷ [])) same (record {
      rows = All-push IsCommitment rows read.0 are.rows (commitment_read table read.0 (placed_ok _ _ read.0 read.1));
      apart = apart_push has_same_id (λ c d. same_comm c.id d.id) rows read.0 are.apart new;
      priced = All-push (λ c. (prices_sku prices c.sku && prices_sku prices c.buy) ≡ true) rows read.0 are.priced (and_from _ _ (holds_true _ _ _ read.2.2.1) (holds_true _ _ _ read.2.2.2.1));
    })

commitments_read : (prices : List PriceRow) (rows : List Commitment) (tables : List Members) (all : List Commitment) → AreCommitments prices rows → commitments_in prices rows tables ≡ Ok all → AreCommitments prices all × (length all ≡ length rows + length tables)
commitments_read prices rows [] all are h = subst (λ r. AreCommitments prices r × (length r ≡ length rows + 0)) (ok_same rows all h) (are, omega arith)
commitments_read prices rows (table ∷ tables) all are h =
    let step = step_ok (next_commitment prices rows table) _ all h in
    let rest = commitments_read prices (rows ++ step.0 ∷ []) tables all (one_more_commitment prices rows table step.0 are step.1) step.2 in
    (rest.0, omega (arith, rest.1, one_behind rows step.0))

-- ---- the regions

record AreRegions (regions : List Region) : Type 0 where
  pub rows : All IsRegion regions
  pub apart : are_apart has_same_region regions ≡ true

one_more_region : (rows : List Region) (table : Members) (row : Region) → AreRegions rows → next_region rows table ≡ Ok row → AreRegions (rows ++ row ∷ [])
unfolding next_region
one_more_region rows table row are h =
    let read = simp step_iff at h in
    let same = ok_same read.0 row read.2.2 in
    let new = not_false (list_any (has_same_region read.0) rows) (holds_true _ _ _ read.2.1) in
    subst (λ r. AreRegions (rows ++ r ∷ [])) same (record {
      rows = All-push IsRegion rows read.0 are.rows (region_read table read.0 (placed_ok _ _ read.0 read.1));
      apart = apart_push has_same_region (λ x y. same_comm x.id y.id) rows read.0 are.apart new;
    })

regions_read : (rows : List Region) (tables : List Members) (all : List Region) → AreRegions rows → regions_in rows tables ≡ Ok all → AreRegions all × (length all ≡ length rows + length tables)
regions_read rows [] all are h = subst (λ r. AreRegions r × (length r ≡ length rows + 0)) (ok_same rows all h) (are, omega arith)
regions_read rows (table ∷ tables) all are h =
    let step = step_ok (next_region rows table) _ all h in
    let rest = regions_read (rows ++ step.0 ∷ []) tables all (one_more_region rows table step.0 are step.1) step.2 in
    (rest.0, omega (arith, rest.1, one_behind rows step.0))

-- ---- the sheet

-- the parts that a sheet was read of
sheet_parts : (table : Members) (sheet : Sheet) →
    ((base : ℕ) × (at_place places.Top (base_under keys.Base table) ≡ Ok base)
    × ((price_tables : List Members) × (at_place places.Top (rows_under keys.Price table) ≡ Ok price_tables)
    × ((commitment_tables : List Members) × (at_place places.Top (rows_under keys.Commitment table) ≡ Ok commitment_tables)
    × ((region_tables : List Members) × (at_place places.Top (rows_under keys.Region table) ≡ Ok region_tables)
    × ((prices : List PriceRow) × (prices_in [] price_tables ≡ Ok prices)
    × ((commitments : List Commitment) × (commitments_in prices [] commitment_tables ≡ Ok commitments)
    × ((regions : List Region) × (regions_in [] region_tables ≡ Ok regions)
    × ◌≡◌ {A = Result Sheet SheetFault} (Ok (record { base = base; prices = prices; commitments = commitments; regions = regions })) (Ok sheet)))))))) → IsSheet sheet
sheet_parts table sheet base =
    let price_tables = base.2 in
    let commitment_tables = price_tables.2 in
    let region_tables = commitment_tables.2 in
    let prices = region_tables.2 in
    let commitments = prices.2 in
    let regions = commitments.2 in
    let rows = prices_read [] price_tables.0 prices.0 (record { rows = All-nil IsPriceRow; apart = refl }) prices.1 in
    let bought = commitments_read prices.0 [] commitment_tables.0 commitments.0 (record { rows = All-nil IsCommitment; apart = refl; priced = All-nil (λ c. (prices_sku prices.0 c.sku && prices_sku prices.0 c.buy) ≡ true) }) commitments.1 in
    let named = regions_read [] region_tables.0 regions.0 (record { rows = All-nil IsRegion; apart = refl }) regions.1 in
    let few_prices = few_under keys.Price table price_tables.0 (placed_ok _ _ _ price_tables.1) in
    let few_commitments = few_under keys.Commitment table commitment_tables.0 (placed_ok _ _ _ commitment_tables.1) in
    let few_regions = few_under keys.Region table region_tables.0 (placed_ok _ _ _ region_tables.1) in
    subst IsSheet (ok_same _ sheet regions.2) (record {
      base = base_is_read keys.Base table base.0 (placed_ok _ _ _ base.1);
      prices = rows.0.rows;
      price_count = omega (arith, rows.1, few_prices);
      one_price = rows.0.apart;
      commitments = bought.0.rows;
      commitment_count = omega (arith, bought.1, few_commitments);
      one_id = bought.0.apart;
      priced = bought.0.priced;
      regions = named.0.rows;
      region_count = omega (arith, named.1, few_regions);
      one_region = named.0.apart;
    })

pub sheet_read : (table : Members) (sheet : Sheet) → sheet_in table ≡ Ok sheet → IsSheet sheet
unfolding sheet_in sheet_of_rows
sheet_read table sheet h = sheet_parts table sheet (simp step_iff at h)
