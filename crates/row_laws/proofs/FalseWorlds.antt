-- Why the laws ask what they ask: in each of these worlds one premise fails, and the law's statement is false. And rows that
-- a faulty program would write, each of which breaks what a law says of it.
use Rattle.std.specs.Prelude.{◌≡◌, ◌≤◌, ℕ, true, ◌&&◌, ◌||◌, nat_le, if◌then◌else◌, List, [], ◌∷◌, ◌++◌, length, map, filter, All, Some, None, ℤ, pos, ◌-ℤ◌, ◌*ℤ◌, option_map, unwrap_or, codes}
use Rattle.std.specs.List.{list_all}
use Rattle.std.specs.Option.{is_some, option_to_list}
use Rattle.std.specs.Fmt.{digits}
use Rattle.jiff_core.specs.Calendar.{days_from_civil, day_count, days_of_years, days_of_months}
use Rattle.std.proofs.Common.{false, ap, refl, sym, ◌∙◌, arith}
use Rattle.std.proofs.lemmas.Bool.{both_ways}
use Rattle.std.proofs.lemmas.Int.{ints}
use Rattle.std.proofs.lemmas.Option.{same_Some, none-some}
use Rattle.std.proofs.lemmas.List.Elements.{All-head}
use Rattle.metering_model.specs.NumberText.{worth_of, decimals_of}
use Rattle.metering_model.specs.Dates.{stamp_in, period_end_text}
use Rattle.metering_model.specs.declared.Version.TheVariants.{B1}
use Rattle.metering_model.specs.Batch.{Batch, Reads, Amends}
use Rattle.metering_model.specs.BatchReading.{Lines, lines_in, is_same}
use Rattle.metering_model.specs.Cut.{Cut, last_of}
use Rattle.metering_model.specs.Sheet.{PriceRow, Sheet, Issuer}
use Rattle.metering_model.specs.PriceInForce.{commitment_with}
use Rattle.metering_model.specs.SheetRules.{is_label}
use Rattle.metering_model.specs.Holding.{Holding, Position}
use Rattle.metering_model.specs.ValueAtSequence.{value_at}
use Rattle.metering_model.specs.declared.PricedKind.TheVariants.{Usage}
use Rattle.metering_model.specs.Rating.{costs, rated, pricing_quantity}
use Rattle.metering_model.specs.declared.ChargeClass.TheVariants.{New, Correction}
use Rattle.metering_model.specs.Row.{Row, row}
use Rattle.metering_model.specs.Rows.{row_of_reading, placed_rows, rows}
use Rattle.metering_model.specs.File.{header_line, file}
use Rattle.metering_model.specs.Totals.{Amounts, amounts_of, added_up, sum_of, at_place, rows_of_place, totals}
use Rattle.metering_model.proofs.DateLaws.{stamp_written}
use Rattle.metering_model.proofs.Samples.{january_2025, cpu, ops, sheet_0, sheet_1, issuer_1}
use Rattle.metering_model.specs.World.{last_cut}
use Rattle.row_laws.specs.Charged.{files, is_new, charged_at_once, charges_up_to}
use Rattle.row_laws.specs.Columns.{line_of_row, sum_of_first_column}
use Rattle.row_laws.specs.Due.{StartsBeforeItsPeriodEnds}
use Rattle.row_laws.specs.Priced.{IsPriceTimesQuantity, is_usage, is_purchase, PriceColumnsAre, CommitmentColumnsAre}
use Rattle.row_laws.proofs.WorkedJournals.{corrected, committed, halved, credit, january, journals, place}
use Rattle.row_laws.proofs.WorkedPriced.{sheet_in_europe, bought, journals_to_march}

-- what the totals of the first reading in the worked journals' first batch are said to be
abbrev AddsUp : Holding → List Cut → Position → Type 0
AddsUp h cuts at =
    totals (rows_of_place sheet_1 issuer_1 h 1 cuts at) ≡ amounts_of (charged_at_once sheet_1 corrected (value_at h at (last_of (last_cut 1 cuts) at.agent)))

-- ---- a cut that goes back charges twice

going_back_charges_twice : AddsUp (january ∷ []) ((1 ∷ []) ∷ (0 ∷ []) ∷ (1 ∷ []) ∷ []) (place 1 0) → ⊥
going_back_charges_twice e = let billed : pos 240_000_000_000 ≡ pos 120_000_000_000 = ap (λ a. a.billed) e in omega (arith, ints)

going_back_is_new_twice : length (filter is_new (rows_of_place sheet_1 issuer_1 (january ∷ []) 1 ((1 ∷ []) ∷ (0 ∷ []) ∷ (1 ∷ []) ∷ []) (place 1 0))) ≤ 1 → ⊥
going_back_is_new_twice h = let two : 2 ≤ 1 = h in omega arith

-- ---- two batches at one place are both charged

two_at_one_place_charge_twice : AddsUp (january ∷ january ∷ []) ((1 ∷ []) ∷ []) (place 1 0) → ⊥
two_at_one_place_charge_twice e = let billed : pos 240_000_000_000 ≡ pos 120_000_000_000 = ap (λ a. a.billed) e in omega (arith, ints)

two_at_one_place_have_two_rows : length (at_place (place 1 0) (placed_rows sheet_1 issuer_1 (january ∷ january ∷ []) 0 (0 ∷ []) (1 ∷ []))) ≤ 1 → ⊥
two_at_one_place_have_two_rows h = let two : 2 ≤ 1 = h in omega arith

-- ---- a batch of sequence 0 lies above no cut, so it is never charged

abbrev unnumbered : Batch
unnumbered = record { version = B1; agent = 1; seq = 0; records = Reads corrected ∷ [] }

sequence_0_is_never_charged : AddsUp (unnumbered ∷ []) ((1 ∷ []) ∷ []) (place 0 0) → ⊥
sequence_0_is_never_charged e = let billed : pos 0 ≡ pos 120_000_000_000 = ap (λ a. a.billed) e in omega (arith, ints)

-- ---- a difference that is rounded by itself does not add up: from 0 to 1 and from 1 to 3 at two units a priced one

abbrev rounded_by_itself : ℤ → ℤ → Amounts
rounded_by_itself was now = amounts_of (costs ops None Usage (now -ℤ was) (pricing_quantity ops.per (now -ℤ was)))

rounded_differences_do_not_add_up :
    added_up (rounded_by_itself (pos 0) (pos 1) ∷ rounded_by_itself (pos 1) (pos 3) ∷ []) ≡ rounded_by_itself (pos 0) (pos 3) → ⊥
rounded_differences_do_not_add_up e = let quantity : pos 1 ≡ pos 2 = ap (λ a. a.priced) e in omega (arith, ints)

-- the differences of the two rounded values do
differences_of_rounded_add_up :
    added_up (amounts_of (rated ops None Usage (pos 0) (pos 1)) ∷ amounts_of (rated ops None Usage (pos 1) (pos 3)) ∷ []) ≡ amounts_of (rated ops None Usage (pos 0) (pos 3))
differences_of_rounded_add_up = refl

-- ---- a line feed in a text of the sheet makes one row two lines, and a number of it a charge

abbrev fed_row : PriceRow
fed_row = record cpu { description = codes "Virtual" ++ 10 ∷ codes "100,CPU time" }

abbrev fed_sheet : Sheet
fed_sheet = record sheet_0 { prices = fed_row ∷ [] }

abbrev first_file : List Cut
first_file = (1 ∷ []) ∷ []

abbrev first_batch : Holding
first_batch = record { version = B1; agent = 1; seq = 1; records = Reads corrected ∷ [] } ∷ []

a_line_feed_is_no_label : is_label fed_row.description ≡ false
a_line_feed_is_no_label = refl

read_with_line_feed : sum_of_first_column (map file (files fed_sheet issuer_1 first_batch 1 first_file)) ≡ Some (pos 100_120_000_000_000)
unfolding days_from_civil day_count days_of_years days_of_months worth_of decimals_of digits
read_with_line_feed = refl

a_line_feed_breaks_the_sum : sum_of_first_column (map file (files fed_sheet issuer_1 first_batch 1 first_file))
    ≡ Some (sum_of (λ x. x.billed) (charges_up_to fed_sheet first_batch (last_cut 1 first_file))) → ⊥
a_line_feed_breaks_the_sum e =
    let billed : pos 100_120_000_000_000 ≡ pos 120_000_000_000 = same_Some (pos 100_120_000_000_000) (pos 120_000_000_000) (sym read_with_line_feed ∙ e) in
    omega (arith, ints)

-- two lines more than the header's, of one row
read_as_three_lines : length (lines_in (file (rows fed_sheet issuer_1 first_batch 0 (0 ∷ []) (1 ∷ [])))).lines ≡ 3
unfolding days_from_civil day_count days_of_years days_of_months worth_of decimals_of digits
read_as_three_lines = refl

a_line_feed_breaks_the_row : lines_in (file (rows fed_sheet issuer_1 first_batch 0 (0 ∷ []) (1 ∷ [])))
    ≡ record { lines = header_line ∷ map line_of_row (rows fed_sheet issuer_1 first_batch 0 (0 ∷ []) (1 ∷ [])); rest = [] } → ⊥
a_line_feed_breaks_the_row e =
    let lines : ◌≡◌ {A = ℕ} 3 2 = sym read_as_three_lines ∙ ap (λ (ls : Lines). length ls.lines) e in
    omega arith

-- so does one in a text of the issuer
abbrev fed_issuer : Issuer
fed_issuer = record issuer_1 { account_name = codes "Payer" ++ 10 ∷ codes "100,Payee" }

read_with_fed_issuer : sum_of_first_column (map file (files sheet_0 fed_issuer first_batch 1 first_file)) ≡ Some (pos 100_120_000_000_000)
unfolding days_from_civil day_count days_of_years days_of_months worth_of decimals_of digits
read_with_fed_issuer = refl

a_fed_issuer_breaks_the_sum : sum_of_first_column (map file (files sheet_0 fed_issuer first_batch 1 first_file))
    ≡ Some (sum_of (λ x. x.billed) (charges_up_to sheet_0 first_batch (last_cut 1 first_file))) → ⊥
a_fed_issuer_breaks_the_sum e =
    let billed : pos 100_120_000_000_000 ≡ pos 120_000_000_000 = same_Some (pos 100_120_000_000_000) (pos 120_000_000_000) (sym read_with_fed_issuer ∙ e) in
    omega (arith, ints)

-- ---- a holding that lacks a batch below the cut lacks its rows

a_missing_batch_is_missed : rows sheet_1 issuer_1 (january ∷ []) 1 (1 ∷ []) (2 ∷ []) ≡ rows sheet_1 issuer_1 journals 1 (1 ∷ []) (2 ∷ []) → ⊥
a_missing_batch_is_missed e = let none : ◌≡◌ {A = ℕ} 0 3 = ap length e in omega arith

-- one that has a batch of its own has rows of its own
a_batch_of_its_own_is_charged : rows sheet_1 issuer_1 (january ∷ []) 0 (0 ∷ []) (1 ∷ []) ≡ rows sheet_1 issuer_1 [] 0 (0 ∷ []) (1 ∷ []) → ⊥
a_batch_of_its_own_is_charged e = let none : ◌≡◌ {A = ℕ} 3 0 = ap length e in omega arith

-- and where the cut goes back, what lies above it is looked at too
going_back_looks_further : rows sheet_1 issuer_1 (january ∷ []) 1 (2 ∷ []) (1 ∷ []) ≡ rows sheet_1 issuer_1 journals 1 (2 ∷ []) (1 ∷ []) → ⊥
going_back_looks_further e = let none : ◌≡◌ {A = ℕ} 0 2 = ap length e in omega arith

-- ---- what is not due for January may start after its end

abbrev ahead : Holding
ahead = record { version = B1; agent = 1; seq = 1; records = Reads credit ∷ [] } ∷ []

third_of_february : stamp_in (codes "2025-02-03T00:00:00Z") ≡ Some (pos 1_738_540_800)
unfolding days_from_civil day_count days_of_years days_of_months
third_of_february = refl

first_of_february : stamp_in (period_end_text january_2025 0) ≡ Some (pos 1_738_368_000)
unfolding days_from_civil day_count days_of_years days_of_months
first_of_february = refl

what_is_not_due_starts_too_late : All StartsBeforeItsPeriodEnds (rows sheet_1 issuer_1 ahead 0 (0 ∷ []) (1 ∷ [])) → ⊥
what_is_not_due_starts_too_late all =
    let x = row sheet_1 issuer_1 credit 0 New (pos 0) credit.value in
    let late = All-head StartsBeforeItsPeriodEnds x [] all in
    let start : pos 1_738_540_800 ≡ late.start = same_Some _ _ (sym third_of_february ∙ stamp_written x.charge_period_start late.start late.start_is) in
    let end : pos 1_738_368_000 ≡ late.end = same_Some _ _ (sym first_of_february ∙ stamp_written x.billing_period_end late.end late.end_is) in
    let before = late.earlier in
    omega (arith, ints)

-- ---- a correction of what was not due for an earlier period may do so too, though what is added now is due

abbrev amended_ahead : Holding
amended_ahead = record { version = B1; agent = 1; seq = 1; records = Reads credit ∷ [] } ∷ record { version = B1; agent = 1; seq = 2; records = Amends 1 0 (pos 0) ∷ [] } ∷ []

what_was_not_due_is_corrected_too_early : All StartsBeforeItsPeriodEnds (rows sheet_1 issuer_1 amended_ahead 0 (1 ∷ []) (2 ∷ [])) → ⊥
what_was_not_due_is_corrected_too_early all =
    let x = row sheet_1 issuer_1 credit 0 Correction credit.value (pos 0) in
    let late = All-head StartsBeforeItsPeriodEnds x [] all in
    let start : pos 1_738_540_800 ≡ late.start = same_Some _ _ (sym third_of_february ∙ stamp_written x.charge_period_start late.start late.start_is) in
    let end : pos 1_738_368_000 ≡ late.end = same_Some _ _ (sym first_of_february ∙ stamp_written x.billing_period_end late.end late.end_is) in
    let before = late.earlier in
    omega (arith, ints)

-- ---- a period that ends in the year 10000 has no text for its end

no_end : (x : Row) → stamp_in x.billing_period_end ≡ None → StartsBeforeItsPeriodEnds x → ⊥
no_end x none late = none-some late.end (sym none ∙ stamp_written x.billing_period_end late.end late.end_is)

a_base_month_can_be_too_late : All StartsBeforeItsPeriodEnds (rows (record sheet_1 { base = 119_999 }) issuer_1 ahead 0 (0 ∷ []) (1 ∷ [])) → ⊥
unfolding days_from_civil day_count days_of_years days_of_months
a_base_month_can_be_too_late all =
    let x = row (record sheet_1 { base = 119_999 }) issuer_1 credit 0 New (pos 0) credit.value in
    no_end x refl (All-head StartsBeforeItsPeriodEnds x [] all)

a_period_can_be_too_late : All StartsBeforeItsPeriodEnds (rows sheet_1 issuer_1 ahead 95_699 (0 ∷ []) (1 ∷ [])) → ⊥
unfolding days_from_civil day_count days_of_years days_of_months
a_period_can_be_too_late all =
    let x = row sheet_1 issuer_1 credit 95_699 New (pos 0) credit.value in
    no_end x refl (All-head StartsBeforeItsPeriodEnds x [] all)

-- ---- a price that is not in force is not in the row: usage that has none bills its amount, under a commitment too

abbrev unpriced_sheet : Sheet
unpriced_sheet = record sheet_1 { prices = [] }

what_has_no_price_lacks_its_columns : All (λ x. PriceColumnsAre (is_usage x || is_purchase x) x) (rows unpriced_sheet issuer_1 first_batch 0 (0 ∷ []) (1 ∷ [])) → ⊥
what_has_no_price_lacks_its_columns all =
    let x = row unpriced_sheet issuer_1 corrected 0 New (pos 0) corrected.value in
    both_ways false refl (All-head (λ x. PriceColumnsAre (is_usage x || is_purchase x) x) x [] all).sku_id

what_has_no_price_is_not_metered : All (λ x. is_some x.consumed_quantity ≡ is_usage x) (rows unpriced_sheet issuer_1 first_batch 0 (0 ∷ []) (1 ∷ [])) → ⊥
what_has_no_price_is_not_metered all =
    let x = row unpriced_sheet issuer_1 corrected 0 New (pos 0) corrected.value in
    both_ways false refl (All-head (λ x. is_some x.consumed_quantity ≡ is_usage x) x [] all)

abbrev committed_batch : Holding
committed_batch = record { version = B1; agent = 1; seq = 1; records = Reads committed ∷ [] } ∷ []

what_has_no_price_is_billed_by_its_amount :
    All (λ x. x.billed_cost ≡ (if is_usage x && is_some x.commitment_discount_id then pos 0 else x.contracted_cost)) (rows unpriced_sheet issuer_1 committed_batch 0 (0 ∷ []) (1 ∷ [])) → ⊥
what_has_no_price_is_billed_by_its_amount all =
    let x = row unpriced_sheet issuer_1 committed 0 New (pos 0) committed.value in
    let billed : pos 5_400_000_000_000_000 ≡ pos 0 = All-head (λ x. x.billed_cost ≡ (if is_usage x && is_some x.commitment_discount_id then pos 0 else x.contracted_cost)) x [] all in
    omega (arith, ints)

what_has_no_price_costs_its_amount :
    All (λ x. is_purchase x ≡ true → is_some x.commitment_discount_id ≡ true → x.effective_cost ≡ pos 0) (rows unpriced_sheet issuer_1 journals_to_march 2 (2 ∷ []) (3 ∷ [])) → ⊥
what_has_no_price_costs_its_amount all =
    let x = row unpriced_sheet issuer_1 bought 2 New (pos 0) bought.value in
    let effective : pos 2_000_000_000_000 ≡ pos 0 = All-head (λ x. is_purchase x ≡ true → is_some x.commitment_discount_id ≡ true → x.effective_cost ≡ pos 0) x [] all refl refl in
    omega (arith, ints)

-- ---- rows of faulty programs: a cost that is not the unit price times the quantity

abbrev billed_row : Row
billed_row = row sheet_in_europe issuer_1 corrected 0 New (pos 0) (pos 5_400_000_000)

abbrev corrected_row : Row
corrected_row = row sheet_in_europe issuer_1 corrected 1 Correction (pos 5_400_000_000) (pos 7_200_000_000)

abbrev halved_row : Row
halved_row = row sheet_in_europe issuer_1 halved 0 New (pos 0) (pos 1)

abbrev committed_row : Row
committed_row = row sheet_in_europe issuer_1 committed 0 New (pos 0) (pos 5_400_000_000)

abbrev bought_row : Row
bought_row = row sheet_in_europe issuer_1 bought 2 New (pos 0) (pos 2_000_000)

-- half a pair of requests costs half a price, but the row's quantity was rounded to 0
abbrev of_what_was_metered : Row
of_what_was_metered = record halved_row { list_cost = pos 500_000 }

a_cost_of_what_was_metered_is_no_product : IsPriceTimesQuantity of_what_was_metered.list_unit_price of_what_was_metered.pricing_quantity of_what_was_metered.list_cost → ⊥
a_cost_of_what_was_metered_is_no_product product = let cost : pos 500_000 ≡ pos 0 = product 1_000_000 (pos 0) refl refl in omega (arith, ints)

-- a Correction that costs the new value whole
abbrev charged_whole : Row
charged_whole = record corrected_row { contracted_cost = pos 160_000_000_000 }

a_cost_of_the_whole_value_is_no_product : IsPriceTimesQuantity charged_whole.contracted_unit_price charged_whole.pricing_quantity charged_whole.contracted_cost → ⊥
a_cost_of_the_whole_value_is_no_product product = let cost : pos 160_000_000_000 ≡ pos 40_000_000_000 = product 80_000 (pos 500_000) refl refl in omega (arith, ints)

-- the list price beside the cost by contract
abbrev of_the_other_price : Row
of_the_other_price = record billed_row { contracted_unit_price = Some 100_000 }

the_other_price_is_no_factor : IsPriceTimesQuantity of_the_other_price.contracted_unit_price of_the_other_price.pricing_quantity of_the_other_price.contracted_cost → ⊥
the_other_price_is_no_factor product = let cost : pos 120_000_000_000 ≡ pos 150_000_000_000 = product 100_000 (pos 1_500_000) refl refl in omega (arith, ints)

-- ---- rows of faulty programs: a null that stands alone

a_sku_without_its_price : PriceColumnsAre (is_some billed_row.pricing_quantity) (record billed_row { sku_price_id = None }) → ⊥
a_sku_without_its_price columns = both_ways false refl columns.sku_price_id

a_price_without_its_unit : PriceColumnsAre (is_some billed_row.pricing_quantity) (record billed_row { pricing_unit = None }) → ⊥
a_price_without_its_unit columns = both_ways false refl columns.pricing_unit

-- a Correction of the costs alone
abbrev of_costs_alone : Row
of_costs_alone = record corrected_row { pricing_quantity = None }

a_price_without_a_quantity : PriceColumnsAre (is_some of_costs_alone.pricing_quantity) of_costs_alone → ⊥
a_price_without_a_quantity columns = both_ways true columns.list_unit_price refl

-- a purchase with the unit of what it buys
abbrev metered_purchase : Row
metered_purchase = record bought_row { consumed_unit = Some (codes "Plans") }

a_unit_of_nothing_consumed : is_some metered_purchase.consumed_quantity ≡ is_some metered_purchase.consumed_unit → ⊥
a_unit_of_nothing_consumed e = both_ways false refl e

a_commitment_without_its_type : CommitmentColumnsAre (is_some committed_row.commitment_discount_id) (record committed_row { commitment_discount_type = None }) → ⊥
a_commitment_without_its_type columns = both_ways false refl columns.type

-- a purchase of a commitment that calls it used
abbrev used_at_once : Row
used_at_once = record bought_row { commitment_discount_status = Some (codes "Used") }

a_purchase_uses_nothing : is_some used_at_once.commitment_discount_status ≡ (is_usage used_at_once && is_some used_at_once.commitment_discount_id) → ⊥
a_purchase_uses_nothing e = both_ways true e refl

-- a credit that is priced
abbrev priced_credit : Row
priced_credit = record (row sheet_in_europe issuer_1 credit 1 New (pos 0) credit.value) { pricing_category = Some (codes "Standard") }

a_credit_is_not_priced : is_some priced_credit.pricing_category ≡ (is_usage priced_credit || is_purchase priced_credit) → ⊥
a_credit_is_not_priced e = both_ways true e refl

-- a credit that stands under a commitment
abbrev committed_credit : Row
committed_credit = record priced_credit { commitment_discount_id = Some (codes "cm-1") }

a_credit_is_under_no_commitment :
    (is_some committed_credit.commitment_discount_id ≡ true → (is_usage committed_credit || is_purchase committed_credit) ≡ true) → ⊥
a_credit_is_under_no_commitment law = both_ways false refl (law refl)

-- a region that the sheet has no name of is left without one
abbrev nameless : Row
nameless = record (row sheet_1 issuer_1 bought 2 New (pos 0) bought.value) { region_name = None }

a_region_without_a_name : is_some nameless.region_id ≡ is_some nameless.region_name → ⊥
a_region_without_a_name e = both_ways true e refl

-- ---- rows of faulty programs: a commitment that is billed as it is used, or costs as it is bought

abbrev billed_again : Row
billed_again = record committed_row { billed_cost = committed_row.contracted_cost }

usage_under_a_commitment_is_not_billed :
    billed_again.billed_cost ≡ (if is_usage billed_again && is_some billed_again.commitment_discount_id then pos 0 else billed_again.contracted_cost) → ⊥
usage_under_a_commitment_is_not_billed e = let billed : pos 120_000_000_000 ≡ pos 0 = e in omega (arith, ints)

abbrev costing_at_once : Row
costing_at_once = record bought_row { effective_cost = bought_row.contracted_cost }

a_purchase_of_a_commitment_costs_nothing :
    (is_purchase costing_at_once ≡ true → is_some costing_at_once.commitment_discount_id ≡ true → costing_at_once.effective_cost ≡ pos 0) → ⊥
a_purchase_of_a_commitment_costs_nothing law = let effective : pos 80_000_000_000_000 ≡ pos 0 = law refl refl in omega (arith, ints)

-- usage under a commitment that costs what it would without
abbrev costing_by_contract : Row
costing_by_contract = record committed_row { effective_cost = committed_row.contracted_cost }

usage_under_a_commitment_costs_its_rate :
    ((id : List ℕ) (q : ℤ) → is_usage costing_by_contract ≡ true → costing_by_contract.commitment_discount_id ≡ Some id → costing_by_contract.pricing_quantity ≡ Some q
    → option_map (λ c. pos c.rate *ℤ q) (commitment_with sheet_in_europe id) ≡ Some costing_by_contract.effective_cost) → ⊥
usage_under_a_commitment_costs_its_rate law =
    let effective : pos 75_000_000_000 ≡ pos 120_000_000_000 = same_Some _ _ (law (codes "cm-1") (pos 1_500_000) refl refl refl) in
    omega (arith, ints)

-- usage without a commitment that costs nothing
abbrev costing_nothing : Row
costing_nothing = record billed_row { effective_cost = pos 0 }

usage_without_a_commitment_costs_its_contract : (costing_nothing.commitment_discount_id ≡ None → costing_nothing.effective_cost ≡ costing_nothing.contracted_cost) → ⊥
usage_without_a_commitment_costs_its_contract law = let effective : pos 0 ≡ pos 120_000_000_000 = law refl in omega (arith, ints)

-- ---- rows of faulty programs: a charge of another account

-- a reading's row that is put on another account than the reading's is not that of its place
a_row_stays_on_its_sub_account : at_place (place 1 0) (record { place = place 1 0; row = record billed_row { sub_account_id = Some (codes "acc-8") } } ∷ [])
    ≡ (if nat_le 1 (last_of (1 ∷ []) 1) then option_to_list (row_of_reading sheet_in_europe issuer_1 (january ∷ []) 0 (0 ∷ []) (1 ∷ []) (place 1 0) corrected) else []) → ⊥
a_row_stays_on_its_sub_account e = both_ways false refl (ap (λ xs. list_all (λ x. is_same (unwrap_or x.sub_account_id []) (codes "acc-7")) xs) e)

a_row_stays_with_its_payer : at_place (place 1 0) (record { place = place 1 0; row = record billed_row { billing_account_id = codes "A-101" } } ∷ [])
    ≡ (if nat_le 1 (last_of (1 ∷ []) 1) then option_to_list (row_of_reading sheet_in_europe issuer_1 (january ∷ []) 0 (0 ∷ []) (1 ∷ []) (place 1 0) corrected) else []) → ⊥
a_row_stays_with_its_payer e = both_ways false refl (ap (λ xs. list_all (λ x. is_same x.billing_account_id (codes "A-100")) xs) e)
