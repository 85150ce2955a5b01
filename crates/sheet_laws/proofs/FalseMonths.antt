-- The law of months without each of its premises: files of exports.
use Rattle.std.proofs.Common.{◌≡◌, ℕ, List, [], ◌∷◌, refl, sym, ap, subst, ◌∙◌, arith, Option, Some, option_map, ℤ, ◌≤ℤ◌, ◌<ℤ◌, Contains}
use Rattle.std.specs.Prelude.{slice_get}
use Rattle.std.specs.Fmt.{digits}
use Rattle.std.specs.Option.{option_and_then}
use Rattle.std.proofs.lemmas.Option.{same_Some}
use Rattle.jiff_core.specs.Calendar.{days_from_civil, day_count, days_of_years, days_of_months}
use Rattle.metering_model.specs.NumberText.{worth_of, decimals_of}
use Rattle.metering_model.specs.Batch.{Batch}
use Rattle.metering_model.specs.Dates.{period_end}
use Rattle.metering_model.specs.Sheet.{PriceRow, Commitment, Sheet, Issuer}
use Rattle.metering_model.specs.PriceInForce.{price_in_force, commitment_with}
use Rattle.metering_model.specs.World.{Event, Snapshot, Reply, Exported}
use Rattle.metering_model.specs.Transcript.{file_of}
use Rattle.metering_model.proofs.Samples.{issuer_1}
use Rattle.group_laws.proofs.EveryRun.{contains_at}
use Rattle.row_laws.specs.Columns.{data_lines}
use Rattle.transcript_laws.specs.Csv.{csv_fields}
use Rattle.sheet_laws.specs.Longer.{GoesOnFrom, NamesAllAlike, without_from, day_start}
use Rattle.sheet_laws.proofs.LongerSheets.{goes_on_by}
use Rattle.sheet_laws.proofs.Premises.{named_alike}
use Rattle.sheet_laws.proofs.TwoSheets.{february_1, old_sheet, it_is_longer}
use Rattle.sheet_laws.proofs.WorkedMonths.{january_batch, february_batch, two_months, run_under, read, january_read, february_read, january_is_read, february_is_read, january_of, february_of, replies_read, old_replies, january_export, january_is_exported, january_is_over}
use Rattle.sheet_laws.proofs.OtherSheets.{replies, of_another_base, with_another_price, with_another_rate, with_another_name, longer_sheet}

abbrev PricesStay : ℤ → Sheet → Sheet → Type 0
PricesStay day old new = (sku : List ℕ) (before : ℤ) (p : PriceRow) → before <ℤ day → price_in_force old sku before ≡ Some p →
    option_map without_from (price_in_force new sku before) ≡ Some (without_from p)

abbrev CommitmentsStay : Sheet → Sheet → Type 0
CommitmentsStay old new = (id : List ℕ) (c : Commitment) → commitment_with old id ≡ Some c → commitment_with new id ≡ Some c

-- these three are what it is to go on
are_all : (day : ℤ) (old new : Sheet) → new.base ≡ old.base → PricesStay day old new → CommitmentsStay old new → GoesOnFrom day old new
are_all day old new base prices commitments = record { base = base; prices = prices; commitments = commitments }

abbrev FilesStay : (ℤ → Sheet → Sheet → Type 0) → Type 0
FilesStay Premise = (agents : ℕ) (old new : Sheet) (issuer : Issuer) (events : List Event) (day : ℤ) → Premise day old new →
    (s : Snapshot) → Contains (replies agents old issuer events) (Exported s) → period_end old.base s.period ≤ℤ day_start day → NamesAllAlike old new s.batches →
    file_of (record s { sheet = new }) ≡ file_of s

-- the byte at a place of a column of a row
abbrev pub byte_at : (row column place : ℕ) → List ℕ → Option ℕ
byte_at row column place text =
    option_and_then (λ field. slice_get field place) (option_and_then (λ line. slice_get (csv_fields line) column) (slice_get (data_lines text) row))

abbrev january_under : Sheet → List ℕ
january_under sheet = file_of (january_export sheet)

-- what is said of the batches as they are read holds of them as they are written, without reading them each time
of_january : (Says : Batch → Type 0) → Says january_read → Says (read january_batch)
of_january Says says = subst Says (sym january_is_read) says

of_both : (Says : Batch → Batch → Type 0) → Says january_read february_read → Says (read january_batch) (read february_batch)
of_both Says says = subst (λ (b : Batch). Says b (read february_batch)) (sym january_is_read) (subst (λ (c : Batch). Says january_read c) (sym february_is_read) says)

abbrev Byte : (row column place : ℕ) → Sheet → ℕ → Batch → Type 0
Byte row column place sheet byte b = byte_at row column place (file_of (january_of b sheet)) ≡ Some byte

names_base : NamesAllAlike old_sheet of_another_base (january_export old_sheet).batches
names_base = of_january (λ b. NamesAllAlike old_sheet of_another_base (b ∷ [])) (named_alike old_sheet of_another_base (january_read ∷ []) refl)

byte_base : byte_at 0 4 6 (january_under of_another_base) ≡ Some 49
byte_base = of_january (Byte 0 4 6 of_another_base 49) (unfold days_from_civil day_count days_of_years days_of_months worth_of decimals_of digits in refl)

old_byte_base : byte_at 0 4 6 (january_under old_sheet) ≡ Some 50
old_byte_base = of_january (Byte 0 4 6 old_sheet 50) (unfold days_from_civil day_count days_of_years days_of_months worth_of decimals_of digits in refl)

-- BillingPeriodEnd, 2025-01 and 2025-02
files_of_another_base : FilesStay (λ day old new. PricesStay day old new × CommitmentsStay old new) → ⊥
files_of_another_base law =
    let same : january_under of_another_base ≡ january_under old_sheet =
    law 1 old_sheet of_another_base issuer_1 two_months february_1 (λ sku before p early e. ap (option_map without_from) e, λ id c e. e)
    (january_export old_sheet) january_is_exported january_is_over names_base in
    let bytes : 49 ≡ 50 = same_Some 49 50 (sym byte_base ∙ ap (byte_at 0 4 6) same ∙ old_byte_base) in
    omega (arith, bytes)

names_price : NamesAllAlike old_sheet with_another_price (january_export old_sheet).batches
names_price = of_january (λ b. NamesAllAlike old_sheet with_another_price (b ∷ [])) (named_alike old_sheet with_another_price (january_read ∷ []) refl)

byte_price : byte_at 0 0 3 (january_under with_another_price) ≡ Some 51
byte_price = of_january (Byte 0 0 3 with_another_price 51) (unfold days_from_civil day_count days_of_years days_of_months worth_of decimals_of digits in refl)

old_byte_price : byte_at 0 0 3 (january_under old_sheet) ≡ Some 50
old_byte_price = of_january (Byte 0 0 3 old_sheet 50) (unfold days_from_civil day_count days_of_years days_of_months worth_of decimals_of digits in refl)

-- BilledCost, 0.135 and 0.12
files_of_another_price : FilesStay (λ day old new. (new.base ≡ old.base) × CommitmentsStay old new) → ⊥
files_of_another_price law =
    let same : january_under with_another_price ≡ january_under old_sheet =
    law 1 old_sheet with_another_price issuer_1 two_months february_1 (refl, λ id c e. e)
    (january_export old_sheet) january_is_exported january_is_over names_price in
    let bytes : 51 ≡ 50 = same_Some 51 50 (sym byte_price ∙ ap (byte_at 0 0 3) same ∙ old_byte_price) in
    omega (arith, bytes)

names_rate : NamesAllAlike old_sheet with_another_rate (january_export old_sheet).batches
names_rate = of_january (λ b. NamesAllAlike old_sheet with_another_rate (b ∷ [])) (named_alike old_sheet with_another_rate (january_read ∷ []) refl)

byte_rate : byte_at 1 20 3 (january_under with_another_rate) ≡ Some 54
byte_rate = of_january (Byte 1 20 3 with_another_rate 54) (unfold days_from_civil day_count days_of_years days_of_months worth_of decimals_of digits in refl)

old_byte_rate : byte_at 1 20 3 (january_under old_sheet) ≡ Some 53
old_byte_rate = of_january (Byte 1 20 3 old_sheet 53) (unfold days_from_civil day_count days_of_years days_of_months worth_of decimals_of digits in refl)

-- EffectiveCost, 0.06 and 0.05
files_of_another_rate : FilesStay (λ day old new. (new.base ≡ old.base) × PricesStay day old new) → ⊥
files_of_another_rate law =
    let same : january_under with_another_rate ≡ january_under old_sheet =
    law 1 old_sheet with_another_rate issuer_1 two_months february_1 (refl, λ sku before p early e. ap (option_map without_from) e)
    (january_export old_sheet) january_is_exported january_is_over names_rate in
    let bytes : 54 ≡ 53 = same_Some 54 53 (sym byte_rate ∙ ap (byte_at 1 20 3) same ∙ old_byte_rate) in
    omega (arith, bytes)

abbrev FilesOfAnyNames : Type 0
FilesOfAnyNames = (agents : ℕ) (old new : Sheet) (issuer : Issuer) (events : List Event) (day : ℤ) → GoesOnFrom day old new →
    (s : Snapshot) → Contains (replies agents old issuer events) (Exported s) → period_end old.base s.period ≤ℤ day_start day →
    file_of (record s { sheet = new }) ≡ file_of s

byte_name : byte_at 0 30 7 (january_under with_another_name) ≡ Some 79
byte_name = of_january (Byte 0 30 7 with_another_name 79) (unfold days_from_civil day_count days_of_years days_of_months worth_of decimals_of digits in refl)

old_byte_name : byte_at 0 30 7 (january_under old_sheet) ≡ Some 49
old_byte_name = of_january (Byte 0 30 7 old_sheet 49) (unfold days_from_civil day_count days_of_years days_of_months worth_of decimals_of digits in refl)

-- RegionName, Europe One and Europe 1
files_of_another_name : FilesOfAnyNames → ⊥
files_of_another_name law =
    let goes = are_all february_1 old_sheet with_another_name refl (λ sku before p early e. ap (option_map without_from) e) (λ id c e. e) in
    let same : january_under with_another_name ≡ january_under old_sheet =
    law 1 old_sheet with_another_name issuer_1 two_months february_1 goes (january_export old_sheet) january_is_exported january_is_over in
    let bytes : 79 ≡ 49 = same_Some 79 49 (sym byte_name ∙ ap (byte_at 0 30 7) same ∙ old_byte_name) in
    omega (arith, bytes)

abbrev FilesOfAnyPeriod : Type 0
FilesOfAnyPeriod = (agents : ℕ) (old new : Sheet) (issuer : Issuer) (events : List Event) (day : ℤ) → GoesOnFrom day old new →
    (s : Snapshot) → Contains (replies agents old issuer events) (Exported s) → NamesAllAlike old new s.batches →
    file_of (record s { sheet = new }) ≡ file_of s

abbrev february_export : Sheet → Snapshot
february_export sheet = record { period = 1; from = 1 ∷ []; to = 2 ∷ []; batches = read january_batch ∷ read february_batch ∷ []; sheet = sheet; issuer = issuer_1 }

february_is_exported : Contains (run_under old_sheet).0 (Exported (february_export old_sheet))
february_is_exported =
    of_both (λ b c. Contains (run_under old_sheet).0 (Exported (february_of b c old_sheet)))
    (subst (λ (rs : List Reply). Contains rs (Exported (february_of january_read february_read old_sheet))) (sym old_replies)
    (contains_at (replies_read old_sheet) 15 (Exported (february_of january_read february_read old_sheet)) refl))

names_later : NamesAllAlike old_sheet longer_sheet (february_export old_sheet).batches
names_later = of_both (λ b c. NamesAllAlike old_sheet longer_sheet (b ∷ c ∷ [])) (named_alike old_sheet longer_sheet (january_read ∷ february_read ∷ []) refl)

byte_later : byte_at 2 0 3 (file_of (february_export longer_sheet)) ≡ Some 57
byte_later = of_both (λ b c. byte_at 2 0 3 (file_of (february_of b c longer_sheet)) ≡ Some 57) (unfold days_from_civil day_count days_of_years days_of_months worth_of decimals_of digits in refl)

old_byte_later : byte_at 2 0 3 (file_of (february_export old_sheet)) ≡ Some 56
old_byte_later = of_both (λ b c. byte_at 2 0 3 (file_of (february_of b c old_sheet)) ≡ Some 56) (unfold days_from_civil day_count days_of_years days_of_months worth_of decimals_of digits in refl)

-- February's BilledCost, 0.09 and 0.08
files_of_a_later_month : FilesOfAnyPeriod → ⊥
files_of_a_later_month law =
    let goes = goes_on_by february_1 old_sheet longer_sheet refl refl it_is_longer.commitments in
    let same : file_of (february_export longer_sheet) ≡ file_of (february_export old_sheet) =
    law 1 old_sheet longer_sheet issuer_1 two_months february_1 goes (february_export old_sheet) february_is_exported names_later in
    let bytes : 57 ≡ 56 = same_Some 57 56 (sym byte_later ∙ ap (byte_at 2 0 3) same ∙ old_byte_later) in
    omega (arith, bytes)
