-- What the journals of two batches are charged in two files, and that each law holds of them.
use Rattle.std.specs.Prelude.{◌≡◌, ℕ, ◌≤◌, zero, suc, [], ◌∷◌, length, map, filter, All, Some, None, pos, neg_ℤ, codes}
use Rattle.std.specs.Fmt.{digits}
use Rattle.jiff_core.specs.Calendar.{days_from_civil, day_count, days_of_years, days_of_months}
use Rattle.std.proofs.Common.{refl, sym, subst, ◌∙◌, arith, inl, inr}
use Rattle.std.proofs.lemmas.Bool.{cases_Bool, cond-true, cond-false}
use Rattle.std.proofs.lemmas.Option.{none-some}
use Rattle.metering_model.specs.NumberText.{worth_of, decimals_of}
use Rattle.metering_model.specs.Batch.{Batch}
use Rattle.metering_model.specs.BatchReading.{lines_in}
use Rattle.metering_model.specs.Cut.{last_of}
use Rattle.metering_model.specs.Holding.{held, is_batch_at}
use Rattle.metering_model.specs.ValueAtSequence.{value_at}
use Rattle.metering_model.specs.Front.{IsDueAt, AreDueBetween}
use Rattle.metering_model.specs.Rows.{placed_rows, rows}
use Rattle.metering_model.specs.File.{header_line, file}
use Rattle.metering_model.specs.Totals.{amounts_of, added_up, sum_of, at_place, rows_of_place, totals}
use Rattle.metering_model.proofs.BatchOrder.{place_of_batch}
use Rattle.metering_model.proofs.Samples.{january_2025, sheet_1, issuer_1}
use Rattle.metering_model.proofs.WorkedSheets.{sheet_1_is_a_sheet, issuer_1_is_an_issuer}
use Rattle.metering_model.specs.World.{last_cut}
use Rattle.row_laws.specs.Charged.{files, all_rows, is_new, charged_at_once, charges_up_to}
use Rattle.row_laws.specs.Columns.{line_of_row, sum_of_first_column}
use Rattle.row_laws.specs.Due.{StartsBeforeItsPeriodEnds}
use Rattle.row_laws.proofs.TotalLaws.{totals_of_place, totals_of_files}
use Rattle.row_laws.proofs.PartLaws.{rows_stay}
use Rattle.row_laws.proofs.DueLaws.{files_start_before}
use Rattle.row_laws.proofs.FileLaws.{one_line_each, texts_add_up}
use Rattle.row_laws.proofs.WorkedJournals.{corrected, committed, halved, credit, january, february, journals, two_cuts, place, january_alone_is_a_holding, journals_are_a_holding, two_cuts_grow}

-- ---- totals of one reading

-- an hour and a half, and in the next period half an hour more
corrected_totals : totals (rows_of_place sheet_1 issuer_1 journals 1 two_cuts (place 1 0)) ≡ record {
  consumed = pos 7_200_000_000;
  priced = pos 2_000_000;
  list = pos 200_000_000_000;
  contracted = pos 160_000_000_000;
  billed = pos 160_000_000_000;
  effective = pos 160_000_000_000;
}
corrected_totals = refl

-- under a commitment nothing is billed, and the effective cost is at its rate
committed_totals : totals (rows_of_place sheet_1 issuer_1 journals 1 two_cuts (place 1 1)) ≡ record {
  consumed = pos 5_400_000_000;
  priced = pos 1_500_000;
  list = pos 150_000_000_000;
  contracted = pos 120_000_000_000;
  billed = pos 0;
  effective = pos 75_000_000_000;
}
committed_totals = refl

-- half a unit is rounded to 0, and one and a half to 2: so the correction is of 2
halved_totals : totals (rows_of_place sheet_1 issuer_1 journals 1 two_cuts (place 1 2)) ≡ record {
  consumed = pos 3;
  priced = pos 2;
  list = pos 2_000_000;
  contracted = pos 2_000_000;
  billed = pos 2_000_000;
  effective = pos 2_000_000;
}
halved_totals = refl

-- a credit has no quantities: they count as 0
credit_totals : totals (rows_of_place sheet_1 issuer_1 journals 1 two_cuts (place 2 2)) ≡ record {
  consumed = pos 0;
  priced = pos 0;
  list = neg_ℤ (pos 2_500_000_000_000);
  contracted = neg_ℤ (pos 2_500_000_000_000);
  billed = neg_ℤ (pos 2_500_000_000_000);
  effective = neg_ℤ (pos 2_500_000_000_000);
}
credit_totals = refl

-- the law's other side, of the corrected reading: two hours in one step
corrected_at_once : amounts_of (charged_at_once sheet_1 corrected (pos 7_200_000_000)) ≡ record {
  consumed = pos 7_200_000_000;
  priced = pos 2_000_000;
  list = pos 200_000_000_000;
  contracted = pos 160_000_000_000;
  billed = pos 160_000_000_000;
  effective = pos 160_000_000_000;
}
corrected_at_once = refl

corrected_value : value_at journals (place 1 0) (last_of (last_cut 1 two_cuts) 1) ≡ pos 7_200_000_000
corrected_value = refl

-- and it holds of each
corrected_adds_up : totals (rows_of_place sheet_1 issuer_1 journals 1 two_cuts (place 1 0))
    ≡ amounts_of (charged_at_once sheet_1 corrected (value_at journals (place 1 0) (last_of (last_cut 1 two_cuts) 1)))
corrected_adds_up = totals_of_place sheet_1 issuer_1 journals journals_are_a_holding 1 two_cuts two_cuts_grow (place 1 0) corrected refl

committed_adds_up : totals (rows_of_place sheet_1 issuer_1 journals 1 two_cuts (place 1 1))
    ≡ amounts_of (charged_at_once sheet_1 committed (value_at journals (place 1 1) (last_of (last_cut 1 two_cuts) 1)))
committed_adds_up = totals_of_place sheet_1 issuer_1 journals journals_are_a_holding 1 two_cuts two_cuts_grow (place 1 1) committed refl

halved_adds_up : totals (rows_of_place sheet_1 issuer_1 journals 1 two_cuts (place 1 2))
    ≡ amounts_of (charged_at_once sheet_1 halved (value_at journals (place 1 2) (last_of (last_cut 1 two_cuts) 1)))
halved_adds_up = totals_of_place sheet_1 issuer_1 journals journals_are_a_holding 1 two_cuts two_cuts_grow (place 1 2) halved refl

credit_adds_up : totals (rows_of_place sheet_1 issuer_1 journals 1 two_cuts (place 2 2))
    ≡ amounts_of (charged_at_once sheet_1 credit (value_at journals (place 2 2) (last_of (last_cut 1 two_cuts) 1)))
credit_adds_up = totals_of_place sheet_1 issuer_1 journals journals_are_a_holding 1 two_cuts two_cuts_grow (place 2 2) credit refl

-- ---- rows of a place, and new ones

-- one row in each period, of which the first alone is new; the amendment's own place has none
corrected_classes : map (λ r. r.charge_class) (rows_of_place sheet_1 issuer_1 journals 1 two_cuts (place 1 0)) ≡ None ∷ Some (codes "Correction") ∷ []
corrected_classes = refl

corrected_in_january : length (at_place (place 1 0) (placed_rows sheet_1 issuer_1 journals 0 (0 ∷ []) (1 ∷ []))) ≡ 1
corrected_in_january = refl

committed_in_february : at_place (place 1 1) (placed_rows sheet_1 issuer_1 journals 1 (1 ∷ []) (2 ∷ [])) ≡ []
committed_in_february = refl

no_row_of_an_amendment : rows_of_place sheet_1 issuer_1 journals 1 two_cuts (place 2 0) ≡ []
no_row_of_an_amendment = refl

corrected_is_new_once : length (filter is_new (rows_of_place sheet_1 issuer_1 journals 1 two_cuts (place 1 0))) ≡ 1
corrected_is_new_once = refl

credit_is_new_in_february : length (filter is_new (at_place (place 2 2) (placed_rows sheet_1 issuer_1 journals 1 (1 ∷ []) (2 ∷ [])))) ≡ 1
credit_is_new_in_february = refl

credit_is_not_reached_in_january : rows_of_place sheet_1 issuer_1 journals 1 ((1 ∷ []) ∷ []) (place 2 2) ≡ []
credit_is_not_reached_in_january = refl

-- ---- all files

rows_in_all : map length (files sheet_1 issuer_1 journals 1 two_cuts) ≡ 3 ∷ 3 ∷ []
rows_in_all = refl

all_totals : totals (all_rows (files sheet_1 issuer_1 journals 1 two_cuts)) ≡ record {
  consumed = pos 12_600_000_003;
  priced = pos 3_500_002;
  list = neg_ℤ (pos 2_149_998_000_000);
  contracted = neg_ℤ (pos 2_219_998_000_000);
  billed = neg_ℤ (pos 2_339_998_000_000);
  effective = neg_ℤ (pos 2_264_998_000_000);
}
all_totals = refl

all_at_once : added_up (map amounts_of (charges_up_to sheet_1 journals (last_cut 1 two_cuts))) ≡ record {
  consumed = pos 12_600_000_003;
  priced = pos 3_500_002;
  list = neg_ℤ (pos 2_149_998_000_000);
  contracted = neg_ℤ (pos 2_219_998_000_000);
  billed = neg_ℤ (pos 2_339_998_000_000);
  effective = neg_ℤ (pos 2_264_998_000_000);
}
all_at_once = refl

all_add_up : totals (all_rows (files sheet_1 issuer_1 journals 1 two_cuts)) ≡ added_up (map amounts_of (charges_up_to sheet_1 journals (last_cut 1 two_cuts)))
all_add_up = totals_of_files sheet_1 issuer_1 journals journals_are_a_holding 1 two_cuts two_cuts_grow

-- ---- their bytes

-- 0.12 + 0 + 0 + 0.04 + 0.000002 - 2.5
read_back : sum_of_first_column (map file (files sheet_1 issuer_1 journals 1 two_cuts)) ≡ Some (neg_ℤ (pos 2_339_998_000_000))
unfolding days_from_civil day_count days_of_years days_of_months worth_of decimals_of digits
read_back = refl

texts_are_billed : sum_of_first_column (map file (files sheet_1 issuer_1 journals 1 two_cuts)) ≡ Some (sum_of (λ x. x.billed) (charges_up_to sheet_1 journals (last_cut 1 two_cuts)))
texts_are_billed = texts_add_up sheet_1 issuer_1 journals journals_are_a_holding sheet_1_is_a_sheet issuer_1_is_an_issuer 1 two_cuts two_cuts_grow

lines_of_january : lines_in (file (rows sheet_1 issuer_1 journals 0 (0 ∷ []) (1 ∷ []))) ≡ record { lines = header_line ∷ map line_of_row (rows sheet_1 issuer_1 journals 0 (0 ∷ []) (1 ∷ [])); rest = [] }
lines_of_january = one_line_each sheet_1 issuer_1 journals journals_are_a_holding sheet_1_is_a_sheet issuer_1_is_an_issuer 0 (0 ∷ []) (1 ∷ [])

-- ---- rows stay

-- what is found in the first batch alone is found where another follows
found_first : (agent seq : ℕ) (b : Batch) → held (january ∷ []) agent seq ≡ Some b → held journals agent seq ≡ Some b
found_first agent seq b e = elim (cases_Bool (is_batch_at agent seq january)) [
  | inl t ↦
      cond-true (is_batch_at agent seq january) (Some january) (held (february ∷ []) agent seq) t
      ∙ (sym (cond-true (is_batch_at agent seq january) (Some january) None t) ∙ e)
  | inr f ↦ absurd (none-some b (sym (cond-false (is_batch_at agent seq january) (Some january) None f) ∙ e))
]

-- up to its sequence, nothing else is found
found_alone : (agent seq : ℕ) (b : Batch) → seq ≤ last_of (1 ∷ []) agent → held journals agent seq ≡ Some b → held (january ∷ []) agent seq ≡ Some b
found_alone agent seq b upto e = elim (cases_Bool (is_batch_at agent seq january)) [
  | inl t ↦
      cond-true (is_batch_at agent seq january) (Some january) None t
      ∙ (sym (cond-true (is_batch_at agent seq january) (Some january) (held (february ∷ []) agent seq) t) ∙ e)
  | inr f ↦ absurd (not_february (sym (cond-false (is_batch_at agent seq january) (Some january) (held (february ∷ []) agent seq) f) ∙ e))
]
  where
    not_february : held (february ∷ []) agent seq ≡ Some b → ⊥
    not_february found = elim (cases_Bool (is_batch_at agent seq february)) [
      | inl t ↦
          let there = place_of_batch agent seq february t in
          let reached : seq ≤ last_of (1 ∷ []) 1 = subst (λ a. seq ≤ last_of (1 ∷ []) a) (sym there.0) upto in
          omega arith
      | inr f ↦ none-some b (sym (cond-false (is_batch_at agent seq february) (Some february) None f) ∙ found)
    ]

january_stays : rows sheet_1 issuer_1 (january ∷ []) 0 (0 ∷ []) (1 ∷ []) ≡ rows sheet_1 issuer_1 journals 0 (0 ∷ []) (1 ∷ [])
january_stays =
    rows_stay sheet_1 issuer_1 (january ∷ []) journals 0 (0 ∷ []) (1 ∷ []) january_alone_is_a_holding journals_are_a_holding
    (record { had = found_first }) (record { had = found_alone }) (omega arith, tt)

three_of_january : length (rows sheet_1 issuer_1 (january ∷ []) 0 (0 ∷ []) (1 ∷ [])) ≡ 3
three_of_january = refl

-- ---- dates

due_in_january : AreDueBetween january_2025 0 journals (0 ∷ []) (1 ∷ [])
unfolding days_from_civil day_count days_of_years days_of_months
due_in_january zero seq above upto = absurd (omega arith)
due_in_january (suc zero) seq above upto = let same : 1 ≡ seq = omega arith in subst (λ s. IsDueAt january_2025 0 journals 1 s) same refl
due_in_january (suc (suc a)) seq above upto = absurd (omega arith)

due_in_february : AreDueBetween january_2025 1 journals (1 ∷ []) (2 ∷ [])
unfolding days_from_civil day_count days_of_years days_of_months
due_in_february zero seq above upto = absurd (omega arith)
due_in_february (suc zero) seq above upto = let same : 2 ≡ seq = omega arith in subst (λ s. IsDueAt january_2025 1 journals 1 s) same refl
due_in_february (suc (suc a)) seq above upto = absurd (omega arith)

all_start_before : All StartsBeforeItsPeriodEnds (all_rows (files sheet_1 issuer_1 journals 1 two_cuts))
all_start_before = files_start_before sheet_1 issuer_1 journals 1 two_cuts journals_are_a_holding sheet_1_is_a_sheet.base (omega arith) (due_in_january, (due_in_february, tt))
