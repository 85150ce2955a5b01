-- The law of months where a text of the issuer or of the sheet has a line feed, and of a snapshot that no run exports.
use Rattle.std.proofs.Common.{◌≡◌, ℕ, option_map, List, [], ◌∷◌, ◌++◌, refl, sym, ap, ◌∙◌, arith, Some, codes, ℤ, ◌≤ℤ◌, Contains}
use Rattle.std.specs.Prelude.{slice_get, take, drop}
use Rattle.std.specs.Fmt.{digits}
use Rattle.std.proofs.lemmas.Option.{same_Some, none-some}
use Rattle.jiff_core.specs.Calendar.{days_from_civil, day_count, days_of_years, days_of_months}
use Rattle.metering_model.specs.NumberText.{worth_of, decimals_of}
use Rattle.metering_model.specs.Dates.{period_end}
use Rattle.metering_model.specs.Sheet.{Sheet, Issuer}
use Rattle.metering_model.specs.SheetRules.{IsSheet, IsIssuer}
use Rattle.metering_model.specs.File.{header_line}
use Rattle.metering_model.specs.World.{Event, Journal, Deliver, Start, Export, Snapshot, Exported, Reply, offer_of}
use Rattle.metering_model.specs.Transcript.{file_of, transcript}
use Rattle.metering_model.specs.Schedule.{TextLines, lines_text}
use Rattle.metering_model.proofs.Samples.{cpu, ops, cpu_plan, issuer_1}
use Rattle.metering_model.proofs.WorkedSheets.{issuer_1_is_an_issuer}
use Rattle.transcript_laws.specs.Shown.{Shows}
use Rattle.sheet_laws.specs.Longer.{GoesOnFrom, NamesAllAlike, without_from, day_start}
use Rattle.sheet_laws.specs.Runs.{AreAllPriced}
use Rattle.sheet_laws.proofs.LongerSheets.{goes_on_by}
use Rattle.sheet_laws.proofs.Premises.{all_priced, named_alike}
use Rattle.sheet_laws.proofs.TwoSheets.{february_1, old_sheet, it_is_longer, old_sheet_is_a_sheet}
use Rattle.sheet_laws.proofs.WorkedMonths.{january_batch, february_batch, read, january_is_over}
use Rattle.sheet_laws.proofs.FalseMonths.{byte_at}
use Rattle.sheet_laws.proofs.FalseShown.{ShowTheSame}
use Rattle.sheet_laws.proofs.OtherSheets.{replies, of_none, longer_sheet}

abbrev ShownWith : (Sheet → Issuer → Type 0) → Type 0
ShownWith Premise = (agents : ℕ) (old new : Sheet) (issuer : Issuer) (events : List Event) (day : ℤ) → Premise old issuer → Premise new issuer → GoesOnFrom day old new →
    AreAllPriced (replies agents old issuer events) → AreAllPriced (replies agents new issuer events) →
    (period : ℕ) → period_end old.base period ≤ℤ day_start day →
    ((s : Snapshot) → Contains (replies agents old issuer events) (Exported s) → s.period ≡ period → NamesAllAlike old new s.batches) →
    ShowTheSame agents old new issuer events period

-- a sheet goes on from itself
itself_goes_on : (day : ℤ) (sheet : Sheet) → GoesOnFrom day sheet sheet
itself_goes_on day sheet = record { base = refl; prices = λ sku before p early e. ap (option_map without_from) e; commitments = λ id c e. e }

abbrev one_month : List Event
one_month =
    Journal (offer_of (lines_text of_none)) ∷ Deliver 0 0 ∷ Start 0 ∷ Deliver 1 0 ∷ Deliver 2 0 ∷ Deliver 3 0 ∷ Deliver 4 0 ∷ Export 0 0 ∷ []

abbrev with_a_line : List ℕ
with_a_line = lines_text (codes "Cloud" ∷ codes "exported period 0 lines 0" ∷ [])

abbrev broken_issuer : Issuer
broken_issuer = record issuer_1 { provider = with_a_line }

abbrev broken_sheet : Sheet
broken_sheet = record old_sheet { prices = record cpu { description = with_a_line } ∷ ops ∷ cpu_plan ∷ [] }

abbrev told : TextLines
told = codes "journaled packet 0" ∷ codes "delivered" ∷ codes "started ballot 1 packet 1" ∷ codes "delivered sent 2" ∷
    codes "delivered sent 3" ∷ codes "delivered sent 4" ∷ codes "delivered learned 0" ∷ []

-- a row in two halves, with a line between them that reads like one above a file
abbrev broken_file : List ℕ → List ℕ → TextLines
broken_file front back = header_line ∷ front ∷ codes "exported period 0 lines 0" ∷ back ∷ []

abbrev broken_at_the_issuer : TextLines
broken_at_the_issuer = broken_file
    (codes "0.08,A-100,Payer,USD,2025-02-01T00:00:00Z,2025-01-01T00:00:00Z,Usage,,Virtual CPU time,Usage-Based,2025-01-11T02:00:00Z,2025-01-11T01:00:00Z,,,,,3600,Seconds,0.08,0.08,0.08,Sample Cloud Ltd,0.1,0.1,Standard,1,Hours,\"Cloud")
    (codes "\",Sample Cloud,,,vm-1,Compute,Sample Compute,cpu,cpu-od,acc-7,{}")

abbrev broken_at_the_sheet : TextLines
broken_at_the_sheet = broken_file
    (codes "0.08,A-100,Payer,USD,2025-02-01T00:00:00Z,2025-01-01T00:00:00Z,Usage,,\"Cloud")
    (codes "\",Usage-Based,2025-01-11T02:00:00Z,2025-01-11T01:00:00Z,,,,,3600,Seconds,0.08,0.08,0.08,Sample Cloud Ltd,0.1,0.1,Standard,1,Hours,Sample Cloud,Sample Cloud,,,vm-1,Compute,Sample Compute,cpu,cpu-od,acc-7,{}")

abbrev replies_of : Sheet → Issuer → List Reply
replies_of sheet issuer = replies 1 sheet issuer one_month

abbrev is_shown_twice : Sheet → Issuer → TextLines → Type 0
is_shown_twice sheet issuer ls = Shows (transcript (replies_of sheet issuer)) 0 (lines_text ls) × Shows (transcript (replies_of sheet issuer)) 0 []

-- so the law doesn't hold of the sheet and itself
shown_twice : (sheet : Sheet) (issuer : Issuer) (ls : TextLines) → is_shown_twice sheet issuer (header_line ∷ ls) → ShowTheSame 1 sheet sheet issuer one_month 0 → ⊥
shown_twice sheet issuer ls both same = some_bytes (same (lines_text (header_line ∷ ls)) [] both.0 both.1)
  where
    some_bytes : lines_text (header_line ∷ ls) ≡ [] → ⊥
    some_bytes e = none-some _ (sym (ap (λ t. slice_get t 0) e))

twice_by_the_issuer : is_shown_twice old_sheet broken_issuer broken_at_the_issuer
unfolding days_from_civil day_count days_of_years days_of_months worth_of decimals_of digits
twice_by_the_issuer = (
  record { before = told; lines = broken_at_the_issuer; after = []; whole = refl; is_text = refl; is_shown = refl },
  record { before = told ++ codes "exported period 0 lines 4" ∷ take 2 broken_at_the_issuer; lines = []; after = drop 3 broken_at_the_issuer; whole = refl; is_text = refl; is_shown = refl },
)

twice_by_the_sheet : is_shown_twice broken_sheet issuer_1 broken_at_the_sheet
unfolding days_from_civil day_count days_of_years days_of_months worth_of decimals_of digits
twice_by_the_sheet = (
  record { before = told; lines = broken_at_the_sheet; after = []; whole = refl; is_text = refl; is_shown = refl },
  record { before = told ++ codes "exported period 0 lines 4" ∷ take 2 broken_at_the_sheet; lines = []; after = drop 3 broken_at_the_sheet; whole = refl; is_text = refl; is_shown = refl },
)

priced_by_the_issuer : AreAllPriced (replies_of old_sheet broken_issuer)
unfolding days_from_civil day_count days_of_years days_of_months worth_of decimals_of digits
priced_by_the_issuer = all_priced (replies_of old_sheet broken_issuer) refl

priced_by_the_sheet : AreAllPriced (replies_of broken_sheet issuer_1)
unfolding days_from_civil day_count days_of_years days_of_months worth_of decimals_of digits
priced_by_the_sheet = all_priced (replies_of broken_sheet issuer_1) refl

shown_by_any_issuer : ShownWith (λ sheet issuer. IsSheet sheet) → ⊥
shown_by_any_issuer law =
    shown_twice old_sheet broken_issuer (drop 1 broken_at_the_issuer) twice_by_the_issuer
    (law 1 old_sheet old_sheet broken_issuer one_month february_1 old_sheet_is_a_sheet old_sheet_is_a_sheet (itself_goes_on february_1 old_sheet)
    priced_by_the_issuer priced_by_the_issuer 0 january_is_over (λ s has is at r found id e. refl))

shown_by_any_sheet : ShownWith (λ sheet issuer. IsIssuer issuer) → ⊥
shown_by_any_sheet law =
    shown_twice broken_sheet issuer_1 (drop 1 broken_at_the_sheet) twice_by_the_sheet
    (law 1 broken_sheet broken_sheet issuer_1 one_month february_1 issuer_1_is_an_issuer issuer_1_is_an_issuer (itself_goes_on february_1 broken_sheet)
    priced_by_the_sheet priced_by_the_sheet 0 january_is_over (λ s has is at r found id e. refl))

-- ---- a snapshot that no run exports: it has usage of February under January

abbrev FilesOfAnySnapshot : Type 0
FilesOfAnySnapshot = (old new : Sheet) (day : ℤ) → GoesOnFrom day old new →
    (s : Snapshot) → period_end old.base s.period ≤ℤ day_start day → NamesAllAlike old new s.batches →
    file_of (record s { sheet = new }) ≡ file_of s

abbrev made_up : Sheet → Snapshot
made_up sheet = record { period = 0; from = 1 ∷ []; to = 2 ∷ []; batches = read january_batch ∷ read february_batch ∷ []; sheet = sheet; issuer = issuer_1 }

names_of_made_up : NamesAllAlike old_sheet longer_sheet (made_up old_sheet).batches
unfolding days_from_civil day_count days_of_years days_of_months worth_of decimals_of digits
names_of_made_up = named_alike old_sheet longer_sheet (made_up old_sheet).batches refl

new_byte : byte_at 2 0 3 (file_of (made_up longer_sheet)) ≡ Some 57
unfolding days_from_civil day_count days_of_years days_of_months worth_of decimals_of digits
new_byte = refl

old_byte : byte_at 2 0 3 (file_of (made_up old_sheet)) ≡ Some 56
unfolding days_from_civil day_count days_of_years days_of_months worth_of decimals_of digits
old_byte = refl

-- BilledCost, 0.09 and 0.08
files_of_any_snapshot : FilesOfAnySnapshot → ⊥
files_of_any_snapshot law =
    let goes = goes_on_by february_1 old_sheet longer_sheet refl refl it_is_longer.commitments in
    let same : file_of (made_up longer_sheet) ≡ file_of (made_up old_sheet) = law old_sheet longer_sheet february_1 goes (made_up old_sheet) january_is_over names_of_made_up in
    let bytes : 57 ≡ 56 = same_Some 57 56 (sym new_byte ∙ ap (byte_at 2 0 3) same ∙ old_byte) in
    omega (arith, bytes)
