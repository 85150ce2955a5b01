-- The law of a batch by itself where it is refused for a price under one sheet.
use Rattle.std.proofs.Common.{◌≡◌, ℕ, List, refl, sym, ◌∙◌, Result, Ok, Err}
use Rattle.std.specs.Prelude.{◌≢◌}
use Rattle.std.specs.Fmt.{digits}
use Rattle.jiff_core.specs.Calendar.{days_from_civil, day_count, days_of_years, days_of_months}
use Rattle.metering_model.specs.NumberText.{worth_of, decimals_of}
use Rattle.metering_model.specs.Batch.{Batch}
use Rattle.metering_model.specs.Sheet.{Sheet, Issuer}
use Rattle.metering_model.specs.declared.Refusal.{Refusal}
use Rattle.metering_model.specs.declared.Refusal.TheVariants.{Unpriced}
use Rattle.metering_model.specs.Schedule.{TextLines, lines_text}
use Rattle.metering_model.proofs.Samples.{issuer_1}
use Rattle.metering_model.specs.RatedAlone.{journaled_in}
use Rattle.sheet_laws.proofs.TwoSheets.{old_sheet, new_sheet, with_gpu}
use Rattle.sheet_laws.proofs.WorkedMonths.{read}
use Rattle.sheet_laws.proofs.FalseRows.{gpu_alone, gpu_is_journaled}
use Rattle.sheet_laws.proofs.OtherSheets.{of_cm_2}

abbrev RatedAlike : (Sheet → Sheet → Issuer → List ℕ → Type 0) → Type 0
RatedAlike Premise = (old new : Sheet) (issuer : Issuer) (text : List ℕ) → Premise old new issuer text → journaled_in new issuer text ≡ journaled_in old issuer text

abbrev journaled_by : Sheet → TextLines → Result Batch Refusal
journaled_by sheet ls = journaled_in sheet issuer_1 (lines_text ls)

batch_not_refused : (b : Batch) → ◌≡◌ {A = Result Batch Refusal} (Ok b) (Err Unpriced) → ⊥
batch_not_refused b e = absurd (cc)

cm_2_is_refused : journaled_by old_sheet of_cm_2 ≡ Err Unpriced
unfolding days_from_civil day_count days_of_years days_of_months worth_of decimals_of digits journaled_in
cm_2_is_refused = refl

cm_2_is_journaled : journaled_by new_sheet of_cm_2 ≡ Ok (read of_cm_2)
unfolding days_from_civil day_count days_of_years days_of_months worth_of decimals_of digits journaled_in
cm_2_is_journaled = refl

rated_unpriced_before : RatedAlike (λ old new issuer text. journaled_in new issuer text ≢ Err Unpriced) → ⊥
rated_unpriced_before law =
    let same = law old_sheet new_sheet issuer_1 (lines_text of_cm_2) (λ e. batch_not_refused (read of_cm_2) (sym cm_2_is_journaled ∙ e)) in
    batch_not_refused (read of_cm_2) (sym cm_2_is_journaled ∙ same ∙ cm_2_is_refused)

gpu_alone_is_refused : journaled_by old_sheet gpu_alone ≡ Err Unpriced
unfolding days_from_civil day_count days_of_years days_of_months worth_of decimals_of digits journaled_in
gpu_alone_is_refused = refl

rated_unpriced_after : RatedAlike (λ old new issuer text. journaled_in old issuer text ≢ Err Unpriced) → ⊥
rated_unpriced_after law =
    let same = law with_gpu old_sheet issuer_1 (lines_text gpu_alone) (λ e. batch_not_refused (read gpu_alone) (sym gpu_is_journaled ∙ e)) in
    batch_not_refused (read gpu_alone) (sym gpu_is_journaled ∙ sym same ∙ gpu_alone_is_refused)
