-- The run of `FalseShown` whose first batch is refused, played again without that batch: January's file stays, whatever comes behind.
use Rattle.std.proofs.Common.{◌≡◌, ℕ, List, [], ◌∷◌, ◌++◌, refl, Contains}
use Rattle.std.specs.Fmt.{digits}
use Rattle.jiff_core.specs.Calendar.{days_from_civil, day_count, days_of_years, days_of_months}
use Rattle.metering_model.specs.NumberText.{worth_of, decimals_of}
use Rattle.metering_model.specs.World.{Event, Journal, Deliver, Start, Export, Snapshot, Exported, offer_of}
use Rattle.metering_model.specs.Transcript.{file_of, transcript}
use Rattle.metering_model.specs.Schedule.{lines_text}
use Rattle.metering_model.proofs.Samples.{issuer_1}
use Rattle.metering_model.proofs.WorkedSheets.{issuer_1_is_an_issuer}
use Rattle.transcript_laws.specs.Shown.{Shows}
use Rattle.transcript_laws.proofs.EveryTranscript.{all_are_shown}
use Rattle.transcript_laws.proofs.ShownExports.{exported_is_shown}
use Rattle.sheet_laws.specs.Longer.{NamesAllAlike}
use Rattle.sheet_laws.specs.Runs.{events_kept}
use Rattle.sheet_laws.proofs.LongerSheets.{goes_on, prices_all}
use Rattle.sheet_laws.proofs.Premises.{alike_exports}
use Rattle.sheet_laws.proofs.PlayedAgain.{shown_again, alike_again}
use Rattle.sheet_laws.proofs.TwoSheets.{february_1, old_sheet, new_sheet, it_is_longer, old_sheet_is_a_sheet, new_sheet_is_a_sheet}
use Rattle.sheet_laws.proofs.WorkedMonths.{january_is_over}
use Rattle.sheet_laws.proofs.OtherSheets.{replies, of_none, journaled_again}
use Rattle.sheet_laws.proofs.FalseRuns.{again_before}
use Rattle.sheet_laws.proofs.FalseShown.{billed_hour, billed_is_exported, names_of_billed}

-- the batch that was refused is left out, and nothing else
the_first_is_left_out : events_kept journaled_again again_before ≡
    Journal (offer_of (lines_text of_none)) ∷ Deliver 0 0 ∷ Start 0 ∷ Deliver 1 0 ∷ Deliver 2 0 ∷ Deliver 3 0 ∷ Deliver 4 0 ∷ Export 0 0 ∷ []
unfolding days_from_civil day_count days_of_years days_of_months worth_of decimals_of digits
the_first_is_left_out = refl

alike : (s : Snapshot) → Contains again_before (Exported s) → s.period ≡ 0 → NamesAllAlike old_sheet new_sheet s.batches
alike = alike_exports 1 0 1 old_sheet new_sheet issuer_1 journaled_again billed_hour billed_is_exported names_of_billed

billed_is_shown : Shows (transcript again_before) 0 (file_of billed_hour)
billed_is_shown = exported_is_shown again_before (all_are_shown 1 0 1 old_sheet issuer_1 journaled_again old_sheet_is_a_sheet issuer_1_is_an_issuer) billed_hour billed_is_exported

module _ (more : List Event) where
  abbrev played_again : List ℕ
  played_again = transcript (replies 1 new_sheet issuer_1 (events_kept journaled_again again_before ++ more))

  still_billed : Shows played_again 0 (file_of billed_hour)
  still_billed =
      shown_again 1 0 1 old_sheet new_sheet issuer_1 journaled_again more february_1 old_sheet_is_a_sheet new_sheet_is_a_sheet issuer_1_is_an_issuer
      (goes_on february_1 old_sheet new_sheet it_is_longer) (prices_all february_1 old_sheet new_sheet it_is_longer) 0 january_is_over alike
      (file_of billed_hour) billed_is_shown

  nothing_else : (two : List ℕ) → Shows played_again 0 two → file_of billed_hour ≡ two
  nothing_else two it =
      alike_again 1 0 1 old_sheet new_sheet issuer_1 journaled_again more february_1 old_sheet_is_a_sheet new_sheet_is_a_sheet issuer_1_is_an_issuer
      (goes_on february_1 old_sheet new_sheet it_is_longer) (prices_all february_1 old_sheet new_sheet it_is_longer) 0 january_is_over alike
      (file_of billed_hour) two billed_is_shown it
