-- A run that exports January alone has one transcript under both sheets.
use Rattle.std.proofs.Common.{◌≡◌, ℕ, zero, suc, List, [], ◌∷◌, refl, sym, subst, Some, ◌≤ℤ◌, Contains}
use Rattle.std.specs.Prelude.{slice_get}
use Rattle.std.specs.Fmt.{digits}
use Rattle.std.proofs.lemmas.Option.{same_Some, none-some}
use Rattle.jiff_core.specs.Calendar.{days_from_civil, day_count, days_of_years, days_of_months}
use Rattle.metering_model.specs.NumberText.{worth_of, decimals_of}
use Rattle.metering_model.specs.Dates.{period_end}
use Rattle.metering_model.specs.Sheet.{Sheet}
use Rattle.metering_model.specs.Holding.{Holding}
use Rattle.metering_model.specs.Limits.{most_packets}
use Rattle.metering_model.specs.World.{Event, Journal, Deliver, Start, Export, Snapshot, Reply, Exported, offer_of, opening}
use Rattle.metering_model.specs.Step.{play}
use Rattle.metering_model.specs.Transcript.{transcript}
use Rattle.metering_model.specs.Schedule.{lines_text}
use Rattle.metering_model.proofs.Samples.{issuer_1}
use Rattle.group_laws.proofs.Agreed.{element_of}
use Rattle.group_laws.proofs.EveryRun.{contains_at, holds_after}
use Rattle.sheet_laws.specs.Longer.{NamesAllAlike, day_start}
use Rattle.sheet_laws.specs.Runs.{AreAllPriced}
use Rattle.sheet_laws.proofs.LongerSheets.{goes_on, prices_all}
use Rattle.sheet_laws.proofs.Months.{names_of_export}
use Rattle.sheet_laws.proofs.Premises.{all_priced, named_alike, alike_exports}
use Rattle.sheet_laws.proofs.SameTranscripts.{transcript_stays}
use Rattle.sheet_laws.proofs.TwoRuns.{still_priced}
use Rattle.sheet_laws.proofs.TwoSheets.{february_1, old_sheet, new_sheet, it_is_longer}
use Rattle.sheet_laws.proofs.WorkedMonths.{january_batch, january_export, january_is_over, regions_are_named_alike}

abbrev one_month : List Event
one_month =
    Journal (offer_of (lines_text january_batch)) ∷ Deliver 0 0 ∷ Start 0 ∷ Deliver 1 0 ∷ Deliver 2 0 ∷ Deliver 3 0 ∷ Deliver 4 0 ∷
    Export 0 0 ∷ []

abbrev replies_under : Sheet → List Reply
replies_under sheet = (play (opening 1 0 1 sheet issuer_1) one_month).0

all_are_priced : AreAllPriced (replies_under old_sheet)
unfolding days_from_civil day_count days_of_years days_of_months worth_of decimals_of digits
all_are_priced = all_priced (replies_under old_sheet) refl

january_is_exported : Contains (replies_under old_sheet) (Exported (january_export old_sheet))
unfolding days_from_civil day_count days_of_years days_of_months worth_of decimals_of digits
january_is_exported = contains_at (replies_under old_sheet) 7 (Exported (january_export old_sheet)) refl

-- of these events one is an export, and it is of January
asks_for_january : (k node period : ℕ) → slice_get one_month k ≡ Some (Export node period) → period ≡ 0
asks_for_january zero node period e = let same = same_Some _ _ e in absurd (cc)
asks_for_january (suc zero) node period e = let same = same_Some _ _ e in absurd (cc)
asks_for_january (suc (suc zero)) node period e = let same = same_Some _ _ e in absurd (cc)
asks_for_january (suc (suc (suc zero))) node period e = let same = same_Some _ _ e in absurd (cc)
asks_for_january (suc (suc (suc (suc zero)))) node period e = let same = same_Some _ _ e in absurd (cc)
asks_for_january (suc (suc (suc (suc (suc zero))))) node period e = let same = same_Some _ _ e in absurd (cc)
asks_for_january (suc (suc (suc (suc (suc (suc zero)))))) node period e = let same = same_Some _ _ e in absurd (cc)
asks_for_january (suc (suc (suc (suc (suc (suc (suc zero))))))) node period e = let same = same_Some _ _ e in cc
asks_for_january (suc (suc (suc (suc (suc (suc (suc (suc k)))))))) node period e = absurd (none-some _ e)

is_of_january : (s : Snapshot) → Contains (replies_under old_sheet) (Exported s) → s.period ≡ 0
is_of_january s has =
    let at = element_of (replies_under old_sheet) (Exported s) has in
    let asked = (holds_after most_packets 1 0 1 old_sheet issuer_1 one_month).answers.asked at.0 s at.1 in
    asks_for_january at.0 asked.0 s.period asked.1

one_transcript : transcript (replies_under new_sheet) ≡ transcript (replies_under old_sheet)
one_transcript =
    transcript_stays 1 0 1 old_sheet new_sheet issuer_1 one_month february_1 (goes_on february_1 old_sheet new_sheet it_is_longer) all_are_priced
    (still_priced 1 0 1 old_sheet new_sheet issuer_1 one_month refl (prices_all february_1 old_sheet new_sheet it_is_longer) all_are_priced)
    (λ s has. (
      subst (λ p. period_end old_sheet.base p ≤ℤ day_start february_1) (sym (is_of_january s has)) january_is_over,
      alike_exports 1 0 1 old_sheet new_sheet issuer_1 one_month (january_export old_sheet) january_is_exported regions_are_named_alike s has (is_of_january s has),
    ))

-- all that was journaled is of regions that are named alike, so each export is
abbrev journals_of_one_month : Holding
journals_of_one_month = (play (opening 1 0 1 old_sheet issuer_1) one_month).1.journals

journals_are_named_alike : NamesAllAlike old_sheet new_sheet journals_of_one_month
unfolding days_from_civil day_count days_of_years days_of_months worth_of decimals_of digits
journals_are_named_alike = named_alike old_sheet new_sheet journals_of_one_month refl

each_export_is_named_alike : (s : Snapshot) → Contains (replies_under old_sheet) (Exported s) → NamesAllAlike old_sheet new_sheet s.batches
each_export_is_named_alike s has = names_of_export 1 0 1 old_sheet issuer_1 one_month s has new_sheet journals_are_named_alike
