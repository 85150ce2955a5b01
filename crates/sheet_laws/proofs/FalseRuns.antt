-- The law of runs without each of its premises.
use Rattle.std.proofs.Common.{◌≡◌, ℕ, List, map, refl, sym, ap, ◌∙◌, arith, Option, Some, None, option_map, slice_index, true, false}
use Rattle.std.specs.Prelude.{slice_get, ◌≢◌}
use Rattle.std.specs.Fmt.{digits}
use Rattle.std.specs.Option.{option_and_then}
use Rattle.std.proofs.lemmas.Option.{same_Some}
use Rattle.jiff_core.specs.Calendar.{days_from_civil, day_count, days_of_years, days_of_months}
use Rattle.metering_model.specs.NumberText.{worth_of, decimals_of}
use Rattle.metering_model.specs.Sheet.{Sheet, Issuer}
use Rattle.metering_model.specs.declared.Refusal.TheVariants.{Unpriced}
use Rattle.metering_model.specs.World.{Event, Exported, Reply, Refused}
use Rattle.metering_model.proofs.Samples.{issuer_1}
use Rattle.group_laws.proofs.Limits.{at_entry}
use Rattle.sheet_laws.specs.Runs.{under_sheet, AreAllPriced, is_unpriced}
use Rattle.sheet_laws.proofs.Premises.{all_priced}
use Rattle.sheet_laws.proofs.TwoSheets.{old_sheet, new_sheet, with_gpu}
use Rattle.sheet_laws.proofs.WorkedMonths.{old_replies, two_months, run_under, all_are_priced}
use Rattle.sheet_laws.proofs.OtherSheets.{replies, of_another_base, journaled_again, numbered_anew, first_is_unpriced, differ}

abbrev AreRepliesAlike : ℕ → Sheet → Sheet → Issuer → List Event → Type 0
AreRepliesAlike agents old new issuer events = replies agents new issuer events ≡ map (under_sheet new) (replies agents old issuer events)

abbrev RunsOfAnyBase : Type 0
RunsOfAnyBase = (agents : ℕ) (old new : Sheet) (issuer : Issuer) (events : List Event) →
    AreAllPriced (replies agents old issuer events) → AreAllPriced (replies agents new issuer events) → AreRepliesAlike agents old new issuer events

abbrev RunsRefusedBefore : Type 0
RunsRefusedBefore = (agents : ℕ) (old new : Sheet) (issuer : Issuer) (events : List Event) → new.base ≡ old.base →
    AreAllPriced (replies agents new issuer events) → AreRepliesAlike agents old new issuer events

abbrev RunsRefusedAfter : Type 0
RunsRefusedAfter = (agents : ℕ) (old new : Sheet) (issuer : Issuer) (events : List Event) → new.base ≡ old.base →
    AreAllPriced (replies agents old issuer events) → AreRepliesAlike agents old new issuer events

-- how far the export of January reaches
abbrev reach_of : Reply → Option ℕ
reach_of (Exported s) = Some (slice_index s.to 0)
reach_of _ = None

abbrev reach : List Reply → Option ℕ
reach rs = option_and_then reach_of (slice_get rs 7)

abbrev replies_in_december : List Reply
replies_in_december = replies 1 of_another_base issuer_1 two_months

priced_in_december : AreAllPriced replies_in_december
unfolding days_from_civil day_count days_of_years days_of_months worth_of decimals_of digits
priced_in_december = all_priced replies_in_december refl

reaches_none : reach replies_in_december ≡ Some 0
unfolding days_from_civil day_count days_of_years days_of_months worth_of decimals_of digits
reaches_none = refl

reaches_one : reach (map (under_sheet of_another_base) (run_under old_sheet).0) ≡ Some 1
reaches_one = ap (λ rs. reach (map (under_sheet of_another_base) rs)) old_replies

-- nothing of January is due in December
runs_of_another_base : RunsOfAnyBase → ⊥
runs_of_another_base law =
    let same : replies_in_december ≡ map (under_sheet of_another_base) (run_under old_sheet).0 = law 1 old_sheet of_another_base issuer_1 two_months all_are_priced priced_in_december in
    let reaches : 0 ≡ 1 = same_Some 0 1 (sym reaches_none ∙ ap reach same ∙ reaches_one) in
    omega (arith, reaches)

-- ---- a batch is refused under the old sheet, and journaled again

abbrev pub again_before : List Reply
again_before = replies 1 old_sheet issuer_1 journaled_again

abbrev pub again_after : List Reply
again_after = replies 1 new_sheet issuer_1 journaled_again

pub priced_again : AreAllPriced again_after
unfolding days_from_civil day_count days_of_years days_of_months worth_of decimals_of digits
priced_again = all_priced again_after refl

refused_at_first : first_is_unpriced (map (under_sheet new_sheet) again_before) ≡ Some true
unfolding days_from_civil day_count days_of_years days_of_months worth_of decimals_of digits
refused_at_first = refl

taken_at_first : first_is_unpriced again_after ≡ Some false
unfolding days_from_civil day_count days_of_years days_of_months worth_of decimals_of digits
taken_at_first = refl

runs_refused_before : RunsRefusedBefore → ⊥
runs_refused_before law = differ (sym refused_at_first ∙ sym (ap first_is_unpriced (law 1 old_sheet new_sheet issuer_1 journaled_again refl priced_again)) ∙ taken_at_first)

-- ---- a batch is refused under the new sheet

abbrev pub anew_before : List Reply
anew_before = replies 2 with_gpu issuer_1 numbered_anew

abbrev pub anew_after : List Reply
anew_after = replies 2 old_sheet issuer_1 numbered_anew

pub priced_anew : AreAllPriced anew_before
unfolding days_from_civil day_count days_of_years days_of_months worth_of decimals_of digits
priced_anew = all_priced anew_before refl

gpu_is_taken : first_is_unpriced (map (under_sheet old_sheet) anew_before) ≡ Some false
unfolding days_from_civil day_count days_of_years days_of_months worth_of decimals_of digits
gpu_is_taken = refl

gpu_is_refused : slice_get anew_after 0 ≡ Some (Refused Unpriced)
unfolding days_from_civil day_count days_of_years days_of_months worth_of decimals_of digits
gpu_is_refused = refl

runs_refused_after : RunsRefusedAfter → ⊥
runs_refused_after law = differ (sym (ap (option_map is_unpriced) gpu_is_refused) ∙ ap first_is_unpriced (law 2 with_gpu old_sheet issuer_1 numbered_anew refl priced_anew) ∙ gpu_is_taken)

-- a sheet that lacks a price of the old one refuses what the old one takes
abbrev PricedWhateverIsPriced : Type 0
PricedWhateverIsPriced = (agents : ℕ) (old new : Sheet) (issuer : Issuer) (events : List Event) → new.base ≡ old.base →
    AreAllPriced (replies agents old issuer events) → AreAllPriced (replies agents new issuer events)

priced_whatever_is_priced : PricedWhateverIsPriced → ⊥
priced_whatever_is_priced law =
    at_entry (λ (r : Reply). r ≢ Refused Unpriced) anew_after 0 (Refused Unpriced) (law 2 with_gpu old_sheet issuer_1 numbered_anew refl priced_anew) gpu_is_refused refl
