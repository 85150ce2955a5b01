-- The law of rows where journals break the rules of one sheet.
use Rattle.std.proofs.Common.{◌≡◌, ℕ, List, [], ◌∷◌, refl, sym, ap, ◌∙◌, Option, Some, option_map, Ok, codes, ℤ, Bool, true, false}
use Rattle.std.specs.Prelude.{slice_get}
use Rattle.std.specs.Fmt.{digits}
use Rattle.std.specs.List.{AllZip}
use Rattle.std.specs.Option.{is_some}
use Rattle.std.proofs.lemmas.List.Elements.{All-nil, All-cons}
use Rattle.jiff_core.specs.Calendar.{days_from_civil, day_count, days_of_years, days_of_months}
use Rattle.metering_model.specs.NumberText.{worth_of, decimals_of}
use Rattle.metering_model.specs.Cut.{Cut}
use Rattle.metering_model.specs.Sheet.{Commitment, Sheet, Issuer}
use Rattle.metering_model.specs.PriceInForce.{commitment_with}
use Rattle.metering_model.specs.Holding.{Holding, put, up_to}
use Rattle.metering_model.specs.JournalRules.{MeetsJournalRules}
use Rattle.metering_model.specs.Row.{Row}
use Rattle.metering_model.specs.Rows.{PlacedRow, placed_rows}
use Rattle.metering_model.specs.Schedule.{TextLines, lines_text}
use Rattle.metering_model.proofs.RulesUpToCut.{MeetsJournalRules-up_to}
use Rattle.metering_model.proofs.Samples.{cm_1, issuer_1}
use Rattle.sheet_laws.specs.Longer.{GoesOnFrom}
use Rattle.sheet_laws.specs.Pairs.{StayAlike}
use Rattle.metering_model.specs.RatedAlone.{journaled_in}
use Rattle.sheet_laws.proofs.LongerSheets.{goes_on_by}
use Rattle.sheet_laws.proofs.RatedAlone.{rules_alone}
use Rattle.sheet_laws.proofs.TwoSheets.{february_1, old_sheet, with_gpu, without_gpu_it_goes_on}
use Rattle.sheet_laws.proofs.WorkedMonths.{read}
use Rattle.sheet_laws.proofs.OtherSheets.{differ}

abbrev RowsPair : (Sheet → Sheet → Holding → Type 0) → Type 0
RowsPair Premise = (day : ℤ) (old new : Sheet) → GoesOnFrom day old new → (issuer : Issuer) (h : Holding) (period : ℕ) (from to : Cut) → Premise old new (up_to to h) →
    AllZip (StayAlike day old new h) (placed_rows old issuer h period from to) (placed_rows new issuer h period from to)

abbrev pub gpu_alone : TextLines
gpu_alone = codes "B1|1|1|1" ∷ codes "U|2025-05-02T00:00:00Z|2025-05-02T01:00:00Z|acc-7|vm-2|gpu|3600||" ∷ []

abbrev of_gpu : Holding
of_gpu = put [] (read gpu_alone)

pub gpu_is_journaled : journaled_in with_gpu issuer_1 (lines_text gpu_alone) ≡ Ok (read gpu_alone)
unfolding days_from_civil day_count days_of_years days_of_months worth_of decimals_of digits journaled_in
gpu_is_journaled = refl

rules_of_gpu : MeetsJournalRules with_gpu of_gpu
rules_of_gpu = rules_alone with_gpu issuer_1 (lines_text gpu_alone) (read gpu_alone) gpu_is_journaled

abbrev rows_of_may : Sheet → List PlacedRow
rows_of_may sheet = placed_rows sheet issuer_1 of_gpu 4 (0 ∷ []) (1 ∷ [])

-- whether the first row has a SkuId
abbrev has_sku : List PlacedRow → Option Bool
has_sku xs = option_map (λ x. is_some x.row.sku_id) (slice_get xs 0)

sku_is_there : has_sku (rows_of_may with_gpu) ≡ Some true
unfolding days_from_civil day_count days_of_years days_of_months worth_of decimals_of digits
sku_is_there = refl

sku_is_null : has_sku (rows_of_may old_sheet) ≡ Some false
unfolding days_from_civil day_count days_of_years days_of_months worth_of decimals_of digits
sku_is_null = refl

same_sku : (old new : Sheet) (h : Holding) (xs ys : List PlacedRow) → AllZip (StayAlike february_1 old new h) xs ys → has_sku ys ≡ has_sku xs
same_sku old new h [] [] all = refl
same_sku old new h [] (y ∷ ys) all = absurd all
same_sku old new h (x ∷ xs) [] all = absurd all
same_sku old new h (x ∷ xs) (y ∷ ys) all = ap (λ (r : Row). Some (is_some r.sku_id)) all.0.columns

-- SkuId is null where nothing is in force
rows_unpriced_after : RowsPair (λ old new h. MeetsJournalRules old h) → ⊥
rows_unpriced_after law =
    differ (sym sku_is_there ∙ sym (same_sku with_gpu old_sheet of_gpu (rows_of_may with_gpu) (rows_of_may old_sheet) (law february_1 with_gpu old_sheet without_gpu_it_goes_on issuer_1 of_gpu 4 (0 ∷ []) (1 ∷ []) (MeetsJournalRules-up_to with_gpu (1 ∷ []) of_gpu rules_of_gpu))) ∙ sku_is_null)

with_gpu_it_goes_on : GoesOnFrom february_1 old_sheet with_gpu
with_gpu_it_goes_on = goes_on_by february_1 old_sheet with_gpu refl refl (All-cons Found cm_1 [] refl (All-nil Found))
  where
    Found : Commitment → Type 0
    Found c = commitment_with with_gpu c.id ≡ Some c

rows_unpriced_before : RowsPair (λ old new h. MeetsJournalRules new h) → ⊥
rows_unpriced_before law =
    differ (sym sku_is_there ∙ same_sku old_sheet with_gpu of_gpu (rows_of_may old_sheet) (rows_of_may with_gpu) (law february_1 old_sheet with_gpu with_gpu_it_goes_on issuer_1 of_gpu 4 (0 ∷ []) (1 ∷ []) (MeetsJournalRules-up_to with_gpu (1 ∷ []) of_gpu rules_of_gpu)) ∙ sku_is_null)
