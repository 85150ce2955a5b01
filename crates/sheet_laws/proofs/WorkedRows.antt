-- The laws of rows and of a batch by itself, on the worked months: what they ask is met.
use Rattle.std.proofs.Common.{◌≡◌, ℕ, zero, suc, List, [], ◌∷◌, map, refl, sym, ap, ap₂, subst, ◌∙◌, inl, inr, Some, None, Result, Ok, Err, codes}
use Rattle.std.specs.Prelude.{◌≢◌, slice_get}
use Rattle.std.specs.Fmt.{digits}
use Rattle.std.specs.List.{AllZip}
use Rattle.std.proofs.lemmas.Bool.{cond-true, cond-false, cases_Bool}
use Rattle.std.proofs.lemmas.Option.{same_Some, none-some}
use Rattle.jiff_core.specs.Calendar.{days_from_civil, day_count, days_of_years, days_of_months}
use Rattle.metering_model.specs.NumberText.{worth_of, decimals_of}
use Rattle.metering_model.specs.Batch.{Batch, Reading, Reads}
use Rattle.metering_model.specs.Holding.{Holding, Position, is_batch_at, held, reading_at, put}
use Rattle.metering_model.specs.JournalRules.{MeetsJournalRules}
use Rattle.metering_model.specs.Rows.{PlacedRow, placed_rows}
use Rattle.metering_model.specs.declared.Refusal.{Refusal}
use Rattle.metering_model.specs.declared.Refusal.TheVariants.{Unpriced}
use Rattle.metering_model.specs.Limits.{most_packets}
use Rattle.metering_model.specs.World.{World}
use Rattle.metering_model.specs.Schedule.{TextLines, lines_text}
use Rattle.metering_model.proofs.RulesUpToCut.{MeetsJournalRules-up_to}
use Rattle.metering_model.proofs.Samples.{issuer_1}
use Rattle.group_laws.proofs.EveryRun.{holds_after}
use Rattle.sheet_laws.specs.Longer.{GoesOnFrom, NamesAllAlike}
use Rattle.sheet_laws.specs.Pairs.{StayAlike, IsPricedAlike, without_region_name}
use Rattle.metering_model.specs.RatedAlone.{journaled_in, placed_rows_alone, file_by}
use Rattle.sheet_laws.proofs.LongerSheets.{goes_on, prices_all}
use Rattle.sheet_laws.proofs.Months.{in_batch}
use Rattle.sheet_laws.proofs.PairedRows.{rows_pair}
use Rattle.sheet_laws.proofs.Premises.{named_alike}
use Rattle.sheet_laws.proofs.RatedAlone.{priced_journaled, rated_in_time, rows_pair_alone}
use Rattle.sheet_laws.proofs.TwoRuns.{same_world}
use Rattle.sheet_laws.proofs.TwoSheets.{february_1, old_sheet, new_sheet, it_is_longer}
use Rattle.sheet_laws.proofs.WorkedMonths.{january_batch, two_months, run_under, read, january, january_is_over, all_are_priced, all_stay_priced}

it_goes_on : GoesOnFrom february_1 old_sheet new_sheet
it_goes_on = goes_on february_1 old_sheet new_sheet it_is_longer

-- ---- February's rows

abbrev journals : Holding
journals = (run_under old_sheet).1.journals

rules_before : MeetsJournalRules old_sheet journals
rules_before =
    let headline = holds_after most_packets 1 0 1 old_sheet issuer_1 two_months in
    subst (λ x. MeetsJournalRules x journals) headline.sheet_kept headline.rules

rules_after : MeetsJournalRules new_sheet journals
rules_after =
    let headline = holds_after most_packets 1 0 1 new_sheet issuer_1 two_months in
    let same = same_world 1 0 1 old_sheet new_sheet issuer_1 two_months refl all_are_priced all_stay_priced in
    subst (MeetsJournalRules new_sheet) (ap (λ (w : World). w.journals) same)
    (subst (λ x. MeetsJournalRules x (run_under new_sheet).1.journals) headline.sheet_kept headline.rules)

february_stays_alike : AllZip (StayAlike february_1 old_sheet new_sheet journals) (placed_rows old_sheet issuer_1 journals 1 (1 ∷ []) (2 ∷ [])) (placed_rows new_sheet issuer_1 journals 1 (1 ∷ []) (2 ∷ []))
february_stays_alike =
    rows_pair february_1 old_sheet new_sheet it_goes_on issuer_1 journals 1 (1 ∷ []) (2 ∷ [])
    (MeetsJournalRules-up_to old_sheet (2 ∷ []) journals rules_before) (MeetsJournalRules-up_to new_sheet (2 ∷ []) journals rules_after)

-- ---- January's batch by itself

abbrev batch_text : List ℕ
batch_text = lines_text january_batch

is_journaled : journaled_in old_sheet issuer_1 batch_text ≡ Ok (read january_batch)
unfolding days_from_civil day_count days_of_years days_of_months worth_of decimals_of digits journaled_in
is_journaled = refl

not_refused : (b : Batch) → ◌≡◌ {A = Result Batch Refusal} (Ok b) (Err Unpriced) → ⊥
not_refused b e = absurd (cc)

taken_before : journaled_in old_sheet issuer_1 batch_text ≢ Err Unpriced
taken_before e = not_refused (read january_batch) (sym is_journaled ∙ e)

taken_after : journaled_in new_sheet issuer_1 batch_text ≢ Err Unpriced
taken_after e = taken_before (sym (priced_journaled old_sheet new_sheet issuer_1 batch_text (prices_all february_1 old_sheet new_sheet it_is_longer) taken_before) ∙ e)

names_of_batch : NamesAllAlike old_sheet new_sheet (put [] (read january_batch))
unfolding days_from_civil day_count days_of_years days_of_months worth_of decimals_of digits
names_of_batch = named_alike old_sheet new_sheet (put [] (read january_batch)) refl

same_batch : (b c : Batch) → ◌≡◌ {A = Result Batch Refusal} (Ok b) (Ok c) → b ≡ c
same_batch b c e = cc

rated_before : file_by old_sheet issuer_1 0 batch_text ≡ Ok (lines_text january)
unfolding days_from_civil day_count days_of_years days_of_months worth_of decimals_of digits journaled_in
rated_before = refl

-- so under the longer sheet it is rated as the same file
rated_after : file_by new_sheet issuer_1 0 batch_text ≡ Ok (lines_text january)
rated_after =
    rated_in_time february_1 old_sheet new_sheet it_goes_on issuer_1 batch_text 0 taken_before taken_after
    (λ b e. subst (λ (c : Batch). NamesAllAlike old_sheet new_sheet (put [] c)) (same_batch (read january_batch) b (sym is_journaled ∙ e)) names_of_batch)
    january_is_over
    ∙ rated_before

-- ---- usage of February of a SKU whose price stays: its row is the same, but for its region's name

abbrev ops_alone : TextLines
ops_alone = codes "B1|1|1|1" ∷ codes "U|2025-02-03T00:00:00Z|2025-02-03T01:00:00Z|acc-7|vm-1|ops|3600||" ∷ []

abbrev ops_batch : Batch
ops_batch = read ops_alone

ops_before : journaled_in old_sheet issuer_1 (lines_text ops_alone) ≡ Ok ops_batch
unfolding days_from_civil day_count days_of_years days_of_months worth_of decimals_of digits journaled_in
ops_before = refl

ops_after : journaled_in new_sheet issuer_1 (lines_text ops_alone) ≡ Ok ops_batch
unfolding days_from_civil day_count days_of_years days_of_months worth_of decimals_of digits journaled_in
ops_after = refl

-- its one reading has one price under both sheets
priced_at : (k : ℕ) (r : Reading) → slice_get ops_batch.records k ≡ Some (Reads r) → IsPricedAlike old_sheet new_sheet r
unfolding days_from_civil day_count days_of_years days_of_months worth_of decimals_of digits
priced_at zero r e = subst (IsPricedAlike old_sheet new_sheet) (same_reading _ r (same_Some _ _ e)) refl
  where
    same_reading : (a b : Reading) → Reads a ≡ Reads b → a ≡ b
    same_reading a b same = cc
priced_at (suc k) r e = absurd (none-some _ e)

held_alone : (agent seq : ℕ) (b c : Batch) → held (b ∷ []) agent seq ≡ Some c → b ≡ c
held_alone agent seq b c e = elim (cases_Bool (is_batch_at agent seq b)) [
  | inl t ↦ same_Some b c (sym (cond-true (is_batch_at agent seq b) (Some b) None t) ∙ e)
  | inr f ↦ absurd (none-some c (sym (cond-false (is_batch_at agent seq b) (Some b) None f) ∙ e))
]

priced_alike : (at : Position) (r : Reading) → reading_at (put [] ops_batch) at ≡ Some r → IsPricedAlike old_sheet new_sheet r
priced_alike at r e =
    let b = in_batch (put [] ops_batch) at r e in
    priced_at at.index r (subst (λ (c : Batch). slice_get c.records at.index ≡ Some (Reads r)) (sym (held_alone at.agent at.seq ops_batch b.0 b.1)) b.2)

rows_alike : (h : Holding) (xs ys : List PlacedRow) → AllZip (StayAlike february_1 old_sheet new_sheet h) xs ys → ((at : Position) (r : Reading) → reading_at h at ≡ Some r → IsPricedAlike old_sheet new_sheet r) →
    map (λ (x : PlacedRow). without_region_name x.row) ys ≡ map (λ (x : PlacedRow). without_region_name x.row) xs
rows_alike h [] [] all each = refl
rows_alike h [] (y ∷ ys) all each = absurd all
rows_alike h (x ∷ xs) [] all each = absurd all
rows_alike h (x ∷ xs) (y ∷ ys) all each = ap₂ ◌∷◌ (all.0.same_price (each x.place all.0.reading all.0.there)) (rows_alike h xs ys all.1 each)

february_costs_the_same : map (λ (x : PlacedRow). without_region_name x.row) (placed_rows_alone new_sheet issuer_1 ops_batch 1) ≡ map (λ (x : PlacedRow). without_region_name x.row) (placed_rows_alone old_sheet issuer_1 ops_batch 1)
february_costs_the_same =
    rows_alike (put [] ops_batch) (placed_rows_alone old_sheet issuer_1 ops_batch 1) (placed_rows_alone new_sheet issuer_1 ops_batch 1)
    (rows_pair_alone february_1 old_sheet new_sheet it_goes_on issuer_1 (lines_text ops_alone) 1 ops_batch ops_before ops_after) priced_alike
