-- Files of one batch, columns of single rows, and batches that are not due.
use Rattle.std.specs.Prelude.{◌≡◌, ℕ, List, [], ◌∷◌, ◌++◌, map, Option, Some, None, Ok, Err, ℤ, pos, codes, refl}
use Rattle.std.specs.Fmt.{digits}
use Rattle.jiff_core.specs.Calendar.{days_from_civil, day_count, days_of_years, days_of_months}
use Rattle.metering_model.specs.NumberText.{worth_of, decimals_of}
use Rattle.metering_model.specs.BatchReading.{batch_in}
use Rattle.metering_model.specs.Sheet.{Sheet}
use Rattle.metering_model.specs.Holding.{Holding, put}
use Rattle.metering_model.specs.Row.{Row}
use Rattle.metering_model.specs.Rows.{rows}
use Rattle.metering_model.specs.File.{header_line, file}
use Rattle.metering_model.specs.Front.{front}
use Rattle.metering_model.specs.Schedule.{TextLines, lines_text}
use Rattle.metering_model.proofs.Samples.{january_2025, sheet_0, sheet_1, empty_sheet, issuer_1, reading_1, row_1}

-- the batches that texts are, put one after the other
abbrev with_batch : Holding → List ℕ → Holding
with_batch h text = elim (batch_in text) [ Ok b ↦ put h b | Err fault ↦ h ]

-- the rows of one agent's batches for a period between two sequences
abbrev rows_between : Sheet → Holding → ℕ → ℕ → ℕ → List Row
rows_between sheet h period from to = rows sheet issuer_1 h period (from ∷ []) (to ∷ [])

-- ---- the file of a batch of flat charges

abbrev flat_batch : TextLines
flat_batch = codes "B1|1|1|3" ∷ codes "C|2025-01-31T00:00:00Z|2025-02-01T00:00:00Z|acc-7||Launch credit|-2.5||" ∷
    codes "T|2025-01-31T00:00:00Z|2025-02-01T00:00:00Z|acc-7||VAT|0.475||" ∷
    codes "A|2025-01-31T00:00:00Z|2025-02-01T00:00:00Z|acc-7||Goodwill, May|-0.025||note=say \"hi\"" ∷ []

first_run : file (rows_between empty_sheet (with_batch [] (lines_text flat_batch)) 0 0 1) ≡ lines_text (
    header_line ∷
    codes "-2.5,A-100,Payer,USD,2025-02-01T00:00:00Z,2025-01-01T00:00:00Z,Credit,,Launch credit,One-Time,2025-02-01T00:00:00Z,2025-01-31T00:00:00Z,,,,,,,-2.5,,-2.5,Sample Cloud Ltd,-2.5,,,,,Sample Cloud,Sample Cloud,,,,Other,Billing,,,acc-7,{}" ∷
    codes "0.475,A-100,Payer,USD,2025-02-01T00:00:00Z,2025-01-01T00:00:00Z,Tax,,VAT,One-Time,2025-02-01T00:00:00Z,2025-01-31T00:00:00Z,,,,,,,0.475,,0.475,Sample Cloud Ltd,0.475,,,,,Sample Cloud,Sample Cloud,,,,Other,Billing,,,acc-7,{}" ∷
    (codes "-0.025,A-100,Payer,USD,2025-02-01T00:00:00Z,2025-01-01T00:00:00Z,Adjustment,,\"Goodwill, May\",One-Time,2025-02-01T00:00:00Z,"
    ++ codes "2025-01-31T00:00:00Z,,,,,,,-0.025,,-0.025,Sample Cloud Ltd,-0.025,,,,,Sample Cloud,Sample Cloud,,,,Other,Billing,,,acc-7,"
    ++ codes "\"{\"\"note\"\":\"\"say \\\"\"hi\\\"\"\"\"}\"") ∷
    [])
unfolding days_from_civil day_count days_of_years days_of_months worth_of decimals_of digits
first_run = refl

-- its front is the one batch, so nothing of it is held back
first_run_front : front january_2025 (with_batch [] (lines_text flat_batch)) (0 ∷ []) 0 ≡ 1 ∷ []
unfolding days_from_civil day_count days_of_years days_of_months worth_of decimals_of digits
first_run_front = refl

-- ---- usage by a price, and its corrections

abbrev batch_1 : Holding
batch_1 = with_batch [] (lines_text (codes "B1|1|1|1" ∷ reading_1 ∷ []))

abbrev amended : Holding
amended = with_batch batch_1 (lines_text (codes "B1|1|2|1" ∷ codes "X|1|0|7200" ∷ []))

abbrev amended_back : Holding
amended_back = with_batch amended (lines_text (codes "B1|1|3|1" ∷ codes "X|1|0|5400" ∷ []))

usage : file (rows_between sheet_0 batch_1 0 0 1) ≡ lines_text (header_line ∷ row_1 ∷ [])
unfolding days_from_civil day_count days_of_years days_of_months worth_of decimals_of digits
usage = refl

-- category, class, quantities, and the list, contracted, billed and effective costs
abbrev charges : Row → Option (List ℕ) × Option ℤ × Option ℤ × ℤ × ℤ × ℤ × ℤ
charges r = (r.charge_class, r.consumed_quantity, r.pricing_quantity, r.list_cost, r.contracted_cost, r.billed_cost, r.effective_cost)

correction : map charges (rows_between sheet_0 amended 1 1 2)
    ≡ (Some (codes "Correction"), Some (pos 1_800_000_000), Some (pos 500_000), pos 50_000_000_000, pos 40_000_000_000, pos 40_000_000_000, pos 40_000_000_000) ∷ []
unfolding days_from_civil day_count days_of_years days_of_months worth_of decimals_of digits
correction = refl

amendment_inside_one_period : map charges (rows_between sheet_0 amended 0 0 2)
    ≡ (None, Some (pos 7_200_000_000), Some (pos 2_000_000), pos 200_000_000_000, pos 160_000_000_000, pos 160_000_000_000, pos 160_000_000_000) ∷ []
unfolding days_from_civil day_count days_of_years days_of_months worth_of decimals_of digits
amendment_inside_one_period = refl

there_and_back : file (rows_between sheet_0 amended_back 1 1 3) ≡ lines_text (header_line ∷ [])
unfolding days_from_civil day_count days_of_years days_of_months worth_of decimals_of digits
there_and_back = refl

-- ---- commitments

under_a_commitment : file (rows_between sheet_1 (with_batch [] (lines_text (codes "B1|1|1|1" ∷ codes "U|2025-01-10T00:00:00Z|2025-01-10T02:00:00Z|acc-7|vm-1|cpu|5400|cm-1|env=prod" ∷ []))) 0 0 1) ≡ lines_text (
    header_line ∷
    (codes "0,A-100,Payer,USD,2025-02-01T00:00:00Z,2025-01-01T00:00:00Z,Usage,,Virtual CPU time,Usage-Based,2025-01-10T02:00:00Z,"
    ++ codes "2025-01-10T00:00:00Z,Usage,cm-1,Used,Reserved,5400,Seconds,0.12,0.08,0.075,Sample Cloud Ltd,0.15,0.1,Committed,1.5,Hours,"
    ++ codes "Sample Cloud,Sample Cloud,,,vm-1,Compute,Sample Compute,cpu,cpu-od,acc-7,\"{\"\"env\"\":\"\"prod\"\"}\"") ∷
    [])
unfolding days_from_civil day_count days_of_years days_of_months worth_of decimals_of digits
under_a_commitment = refl

abbrev purchase_batch : Holding
purchase_batch = with_batch [] (lines_text (codes "B1|1|1|1" ∷ codes "P|2025-01-01T00:00:00Z|2025-02-01T00:00:00Z|||cpu-plan|2|cm-1|" ∷ []))

purchase_of_a_commitment : map charges (rows_between sheet_1 purchase_batch 0 0 1)
    ≡ (None, None, Some (pos 2_000_000), pos 100_000_000_000_000, pos 80_000_000_000_000, pos 80_000_000_000_000, pos 0) ∷ []
unfolding days_from_civil day_count days_of_years days_of_months worth_of decimals_of digits
purchase_of_a_commitment = refl

-- frequency, pricing category, metered unit, and the commitment's category, id, status and type
abbrev terms : Row → List ℕ × Option (List ℕ) × Option (List ℕ) × Option (List ℕ) × Option (List ℕ) × Option (List ℕ) × Option (List ℕ)
terms r = (
  r.charge_frequency,
  r.pricing_category,
  r.consumed_unit,
  r.commitment_discount_category,
  r.commitment_discount_id,
  r.commitment_discount_status,
  r.commitment_discount_type,
)

purchase_terms : map terms (rows_between sheet_1 purchase_batch 0 0 1)
    ≡ (codes "One-Time", Some (codes "Standard"), None, Some (codes "Usage"), Some (codes "cm-1"), None, Some (codes "Reserved")) ∷ []
unfolding days_from_civil day_count days_of_years days_of_months worth_of decimals_of digits
purchase_terms = refl

-- ---- batches that are not due

abbrev ahead : Holding
ahead = with_batch
    (with_batch [] (lines_text (codes "B1|1|1|2" ∷ reading_1 ∷ codes "U|2025-02-01T00:00:00Z|2025-02-01T02:00:00Z|acc-7|vm-1|cpu|5400||" ∷ [])))
    (lines_text (codes "B1|1|2|1" ∷ reading_1 ∷ []))

not_due : front january_2025 ahead (0 ∷ []) 0 ≡ 0 ∷ []
unfolding days_from_civil day_count days_of_years days_of_months worth_of decimals_of digits
not_due = refl

due_later : front january_2025 ahead (0 ∷ []) 1 ≡ 2 ∷ []
unfolding days_from_civil day_count days_of_years days_of_months worth_of decimals_of digits
due_later = refl
