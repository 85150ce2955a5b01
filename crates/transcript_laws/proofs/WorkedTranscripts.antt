-- A transcript with two files, computed: what it shows, and that its first columns add up to what is billed.
use Rattle.std.proofs.Common.{sym, subst, ◌∙◌}
use Rattle.std.specs.Prelude.{◌≡◌, ℕ, zero, suc, List, [], ◌∷◌, ◌++◌, length, map, take, Some, pos, slice_get, codes, refl}
use Rattle.std.specs.Fmt.{digits}
use Rattle.std.proofs.lemmas.Option.{same_Some, none-some}
use Rattle.jiff_core.specs.Calendar.{days_from_civil, day_count, days_of_years, days_of_months}
use Rattle.metering_model.specs.NumberText.{worth_of, decimals_of}
use Rattle.metering_model.specs.File.{header_line}
use Rattle.metering_model.specs.Totals.{sum_of}
use Rattle.metering_model.specs.World.{World, Event, Reply, last_cut, opening}
use Rattle.metering_model.specs.Step.{play}
use Rattle.metering_model.specs.Transcript.{transcript}
use Rattle.metering_model.specs.Schedule.{TextLines, lines_text, event_of}
use Rattle.metering_model.proofs.Samples.{sheet_1, issuer_1, row_1}
use Rattle.metering_model.proofs.WorkedPeriods.{correction}
use Rattle.metering_model.proofs.WorkedSheets.{sheet_1_is_a_sheet, issuer_1_is_an_issuer}
use Rattle.row_laws.specs.Charged.{charges_up_to}
use Rattle.row_laws.specs.Columns.{sum_of_first_column}
use Rattle.transcript_laws.specs.Csv.{csv_fields, new_lines}
use Rattle.transcript_laws.specs.Shown.{Shows, HoldsOfBytes}
use Rattle.transcript_laws.proofs.EveryTranscript.{holds_of_bytes}

-- an hour and a half of January, which February's file corrects to two hours; February's is exported first
abbrev pub events : List Event
events = map event_of correction.events

abbrev run : List Reply × World
run = play (opening 1 0 1 sheet_1 issuer_1) events

abbrev pub text : List ℕ
text = transcript run.0

abbrev pub corrected_row : List ℕ
corrected_row = codes "0.04,A-100,Payer,USD,2025-03-01T00:00:00Z,2025-02-01T00:00:00Z,Usage,Correction,Virtual CPU time,Usage-Based,"
    ++ codes "2025-01-10T02:00:00Z,2025-01-10T00:00:00Z,,,,,1800,Seconds,0.04,0.08,0.04,Sample Cloud Ltd,0.05,0.1,Standard,0.5,Hours,"
    ++ codes "Sample Cloud,Sample Cloud,,,vm-1,Compute,Sample Compute,cpu,cpu-od,acc-7,\"{\"\"env\"\":\"\"prod\"\"}\""

abbrev pub january : TextLines
january = header_line ∷ row_1 ∷ []

abbrev pub february : TextLines
february = header_line ∷ corrected_row ∷ []

-- what stands before both files
abbrev pub told : TextLines
told = codes "journaled packet 0" ∷ codes "delivered" ∷ codes "started ballot 1 packet 1" ∷ codes "delivered sent 2" ∷
    codes "delivered sent 3" ∷ codes "delivered sent 4" ∷ codes "delivered learned 0" ∷ codes "journaled packet 5" ∷
    codes "delivered" ∷ codes "started ballot 2 packet 6" ∷ codes "delivered sent 7" ∷ codes "delivered sent 8" ∷
    codes "delivered sent 9" ∷ codes "delivered learned 1" ∷ []

february_is_shown : Shows text 1 (lines_text february)
unfolding days_from_civil day_count days_of_years days_of_months worth_of decimals_of digits
february_is_shown = record { before = told; lines = february; after = codes "exported period 0 lines 2" ∷ january; whole = refl; is_text = refl; is_shown = refl }

pub january_is_shown : Shows text 0 (lines_text january)
unfolding days_from_civil day_count days_of_years days_of_months worth_of decimals_of digits
january_is_shown = record { before = told ++ codes "exported period 1 lines 2" ∷ february; lines = january; after = []; whole = refl; is_text = refl; is_shown = refl }

-- ---- by the headline these bytes are the only ones under their periods, and they add up

pub holds : HoldsOfBytes 1 0 1 sheet_1 issuer_1 events text
holds = holds_of_bytes 1 0 1 sheet_1 issuer_1 events sheet_1_is_a_sheet issuer_1_is_an_issuer

no_other_january : (shown : List ℕ) → Shows text 0 shown → shown ≡ lines_text january
no_other_january shown it = holds.agree 0 shown (lines_text january) it january_is_shown

both_files : (period : ℕ) (one : List ℕ) → slice_get (lines_text january ∷ lines_text february ∷ []) period ≡ Some one → Shows text period one
both_files zero one e = subst (Shows text 0) (same_Some (lines_text january) one e) january_is_shown
both_files (suc zero) one e = subst (Shows text 1) (same_Some (lines_text february) one e) february_is_shown
both_files (suc (suc period)) one e = absurd (none-some one e)

-- 0.12 and 0.04, in units of 10^-12
first_columns : sum_of_first_column (lines_text january ∷ lines_text february ∷ []) ≡ Some (pos 160_000_000_000)
unfolding worth_of
first_columns = refl

-- so two hours are billed 0.16, whichever cuts were chosen
billed_once : sum_of (λ x. x.billed) (charges_up_to sheet_1 holds.world.journals (last_cut 1 (take 2 holds.cuts))) ≡ pos 160_000_000_000
billed_once = same_Some _ _ (sym (holds.adds_up (lines_text january ∷ lines_text february ∷ []) both_files) ∙ first_columns)

-- of both lines one is new, and so there is one reading
one_is_new : length (new_lines (lines_text january ∷ lines_text february ∷ [])) ≡ 1
one_is_new = refl

one_reading : length (charges_up_to sheet_1 holds.world.journals (last_cut 1 (take 2 holds.cuts))) ≡ 1
one_reading = sym (holds.new_once (lines_text january ∷ lines_text february ∷ []) both_files) ∙ one_is_new

-- ---- read as CSV, the lines have the header line's columns

columns : (length (csv_fields header_line) ≡ 38) × (slice_get (csv_fields header_line) 7 ≡ Some (codes "ChargeClass")) × (slice_get (csv_fields header_line) 37 ≡ Some (codes "Tags"))
columns = (refl, refl, refl)

new_in_january : slice_get (csv_fields row_1) 7 ≡ Some []
new_in_january = refl

corrected_in_february : slice_get (csv_fields corrected_row) 7 ≡ Some (codes "Correction")
corrected_in_february = refl

-- a field between quotation marks, of which the inner ones were doubled
tags_in_january : slice_get (csv_fields row_1) 37 ≡ Some (codes "{\"env\":\"prod\"}")
tags_in_january = refl
