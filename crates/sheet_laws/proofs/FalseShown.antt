-- The law of months where a batch was refused for a price: what transcripts show.
use Rattle.std.proofs.Common.{◌≡◌, ℕ, List, [], ◌∷◌, refl, sym, ap, subst, ◌∙◌, arith, Some, pos, ℤ, ◌≤ℤ◌, Contains}
use Rattle.std.specs.Fmt.{digits}
use Rattle.std.proofs.lemmas.Int.{ints}
use Rattle.std.proofs.lemmas.Option.{same_Some}
use Rattle.jiff_core.specs.Calendar.{days_from_civil, day_count, days_of_years, days_of_months}
use Rattle.metering_model.specs.NumberText.{worth_of, decimals_of}
use Rattle.metering_model.specs.Dates.{period_end}
use Rattle.metering_model.specs.Sheet.{Sheet, Issuer}
use Rattle.metering_model.specs.SheetRules.{IsSheet, IsIssuer}
use Rattle.metering_model.specs.World.{Event, Snapshot, Exported}
use Rattle.metering_model.specs.Transcript.{file_of, transcript}
use Rattle.metering_model.proofs.Samples.{issuer_1}
use Rattle.metering_model.proofs.WorkedSheets.{issuer_1_is_an_issuer}
use Rattle.group_laws.proofs.EveryRun.{contains_at}
use Rattle.row_laws.specs.Columns.{sum_of_first_column}
use Rattle.transcript_laws.specs.Shown.{Shows}
use Rattle.transcript_laws.proofs.EveryTranscript.{all_are_shown}
use Rattle.transcript_laws.proofs.ShownExports.{exported_is_shown}
use Rattle.sheet_laws.specs.Longer.{GoesOnFrom, NamesAllAlike, day_start}
use Rattle.sheet_laws.specs.Runs.{AreAllPriced}
use Rattle.sheet_laws.proofs.LongerSheets.{goes_on}
use Rattle.sheet_laws.proofs.Premises.{named_alike, alike_exports}
use Rattle.sheet_laws.proofs.TwoSheets.{february_1, old_sheet, new_sheet, with_gpu, it_is_longer, old_sheet_is_a_sheet, new_sheet_is_a_sheet, with_gpu_is_a_sheet, without_gpu_it_goes_on}
use Rattle.sheet_laws.proofs.WorkedMonths.{read, january_is_over}
use Rattle.sheet_laws.proofs.FalseRuns.{again_before, again_after, priced_again, anew_before, anew_after, priced_anew}
use Rattle.sheet_laws.proofs.OtherSheets.{replies, of_cm_2, of_none, journaled_again, numbered_anew}

abbrev pub ShowTheSame : ℕ → Sheet → Sheet → Issuer → List Event → ℕ → Type 0
ShowTheSame agents old new issuer events period = (one two : List ℕ) →
    Shows (transcript (replies agents old issuer events)) period one → Shows (transcript (replies agents new issuer events)) period two → one ≡ two

abbrev ShownRefused : (ℕ → Sheet → Sheet → Issuer → List Event → Type 0) → Type 0
ShownRefused Premise = (agents : ℕ) (old new : Sheet) (issuer : Issuer) (events : List Event) (day : ℤ) → IsSheet old → IsSheet new → IsIssuer issuer → GoesOnFrom day old new →
    Premise agents old new issuer events → (period : ℕ) → period_end old.base period ≤ℤ day_start day →
    ((s : Snapshot) → Contains (replies agents old issuer events) (Exported s) → s.period ≡ period → NamesAllAlike old new s.batches) →
    ShowTheSame agents old new issuer events period

-- what two exports of January then have in common
exports_alike : (agents : ℕ) (old new : Sheet) (events : List Event) → IsSheet old → IsSheet new → ShowTheSame agents old new issuer_1 events 0 →
    (s t : Snapshot) → s.period ≡ 0 → t.period ≡ 0 → Contains (replies agents old issuer_1 events) (Exported s) → Contains (replies agents new issuer_1 events) (Exported t) → file_of s ≡ file_of t
exports_alike agents old new events is_old is_new same s t p q has has_new =
    same (file_of s) (file_of t)
    (subst (λ n. Shows (transcript (replies agents old issuer_1 events)) n (file_of s)) p
    (exported_is_shown (replies agents old issuer_1 events) (all_are_shown 1 0 agents old issuer_1 events is_old issuer_1_is_an_issuer) s has))
    (subst (λ n. Shows (transcript (replies agents new issuer_1 events)) n (file_of t)) q
    (exported_is_shown (replies agents new issuer_1 events) (all_are_shown 1 0 agents new issuer_1 events is_new issuer_1_is_an_issuer) t has_new))

-- ---- under the old sheet the batch is journaled without its commitment, and so is billed

abbrev pub billed_hour : Snapshot
billed_hour = record { period = 0; from = 0 ∷ []; to = 1 ∷ []; batches = read of_none ∷ []; sheet = old_sheet; issuer = issuer_1 }

abbrev committed_hour : Snapshot
committed_hour = record { period = 0; from = 0 ∷ []; to = 1 ∷ []; batches = read of_cm_2 ∷ []; sheet = new_sheet; issuer = issuer_1 }

pub billed_is_exported : Contains again_before (Exported billed_hour)
unfolding days_from_civil day_count days_of_years days_of_months worth_of decimals_of digits
billed_is_exported = contains_at again_before 8 (Exported billed_hour) refl

committed_is_exported : Contains again_after (Exported committed_hour)
unfolding days_from_civil day_count days_of_years days_of_months worth_of decimals_of digits
committed_is_exported = contains_at again_after 8 (Exported committed_hour) refl

pub names_of_billed : NamesAllAlike old_sheet new_sheet billed_hour.batches
unfolding days_from_civil day_count days_of_years days_of_months worth_of decimals_of digits
names_of_billed = named_alike old_sheet new_sheet billed_hour.batches refl

-- 0.08, in units of 10^-12
sum_of_billed : sum_of_first_column (file_of billed_hour ∷ []) ≡ Some (pos 80_000_000_000)
unfolding days_from_civil day_count days_of_years days_of_months worth_of decimals_of digits
sum_of_billed = refl

sum_of_committed : sum_of_first_column (file_of committed_hour ∷ []) ≡ Some (pos 0)
unfolding days_from_civil day_count days_of_years days_of_months worth_of decimals_of digits
sum_of_committed = refl

sums_differ : pos 80_000_000_000 ≡ pos 0 → ⊥
sums_differ e = grind (arith, ints)

shown_refused_before : ShownRefused (λ agents old new issuer events. AreAllPriced (replies agents new issuer events)) → ⊥
shown_refused_before law =
    let same = law 1 old_sheet new_sheet issuer_1 journaled_again february_1 old_sheet_is_a_sheet new_sheet_is_a_sheet issuer_1_is_an_issuer
    (goes_on february_1 old_sheet new_sheet it_is_longer) priced_again 0 january_is_over
    (alike_exports 1 0 1 old_sheet new_sheet issuer_1 journaled_again billed_hour billed_is_exported names_of_billed) in
    let files = exports_alike 1 old_sheet new_sheet journaled_again old_sheet_is_a_sheet new_sheet_is_a_sheet same billed_hour committed_hour refl refl billed_is_exported committed_is_exported in
    sums_differ (same_Some _ _ (sym sum_of_billed ∙ ap (λ x. sum_of_first_column (x ∷ [])) files ∙ sum_of_committed))

-- ---- under the new sheet the batch of January is never delivered

abbrev delivered_hour : Snapshot
delivered_hour = record { period = 0; from = 0 ∷ 0 ∷ []; to = 1 ∷ 0 ∷ []; batches = read of_none ∷ []; sheet = with_gpu; issuer = issuer_1 }

abbrev nothing_delivered : Snapshot
nothing_delivered = record { period = 0; from = 0 ∷ 0 ∷ []; to = 0 ∷ 0 ∷ []; batches = []; sheet = old_sheet; issuer = issuer_1 }

delivered_is_exported : Contains anew_before (Exported delivered_hour)
unfolding days_from_civil day_count days_of_years days_of_months worth_of decimals_of digits
delivered_is_exported = contains_at anew_before 9 (Exported delivered_hour) refl

nothing_is_exported : Contains anew_after (Exported nothing_delivered)
unfolding days_from_civil day_count days_of_years days_of_months worth_of decimals_of digits
nothing_is_exported = contains_at anew_after 9 (Exported nothing_delivered) refl

names_of_delivered : NamesAllAlike with_gpu old_sheet delivered_hour.batches
unfolding days_from_civil day_count days_of_years days_of_months worth_of decimals_of digits
names_of_delivered = named_alike with_gpu old_sheet delivered_hour.batches refl

sum_of_delivered : sum_of_first_column (file_of delivered_hour ∷ []) ≡ Some (pos 80_000_000_000)
unfolding days_from_civil day_count days_of_years days_of_months worth_of decimals_of digits
sum_of_delivered = refl

sum_of_nothing : sum_of_first_column (file_of nothing_delivered ∷ []) ≡ Some (pos 0)
unfolding days_from_civil day_count days_of_years days_of_months worth_of decimals_of digits
sum_of_nothing = refl

shown_refused_after : ShownRefused (λ agents old new issuer events. AreAllPriced (replies agents old issuer events)) → ⊥
shown_refused_after law =
    let same = law 2 with_gpu old_sheet issuer_1 numbered_anew february_1 with_gpu_is_a_sheet old_sheet_is_a_sheet issuer_1_is_an_issuer
    without_gpu_it_goes_on priced_anew 0 january_is_over
    (alike_exports 1 0 2 with_gpu old_sheet issuer_1 numbered_anew delivered_hour delivered_is_exported names_of_delivered) in
    let files = exports_alike 2 with_gpu old_sheet numbered_anew with_gpu_is_a_sheet old_sheet_is_a_sheet same delivered_hour nothing_delivered refl refl delivered_is_exported nothing_is_exported in
    sums_differ (same_Some _ _ (sym sum_of_delivered ∙ ap (λ x. sum_of_first_column (x ∷ [])) files ∙ sum_of_nothing))
