-- What a transcript shows whoever reads its bytes: files, each under its period, and what holds of them after every run.
use Rattle.std.specs.Prelude.{◌≡◌, ℕ, List, ◌∷◌, ◌++◌, length, map, take, [], Some, All, slice_get, codes, IsTrue}
use Rattle.std.specs.List.{Contains, list_all}
use Rattle.metering_model.specs.Batch.{lacks}
use Rattle.metering_model.specs.BatchReading.{lines_in}
use Rattle.metering_model.specs.Sheet.{Sheet, Issuer}
use Rattle.metering_model.specs.Cut.{Cut}
use Rattle.metering_model.specs.Rows.{rows}
use Rattle.metering_model.specs.File.{header_line, fields_of_row, file}
use Rattle.metering_model.specs.Totals.{sum_of}
use Rattle.metering_model.specs.World.{World, Event, Snapshot, Reply, Exported, last_cut, opening}
use Rattle.metering_model.specs.Step.{cut_before, play}
use Rattle.metering_model.specs.Transcript.{with_number, file_of, transcript}
use Rattle.metering_model.specs.Schedule.{TextLines, lines_text}
use Rattle.group_laws.specs.Headline.{AreTheCuts, AreChargedOnce, HoldsAfter}
use Rattle.row_laws.specs.Charged.{charges_up_to}
use Rattle.row_laws.specs.Columns.{line_of_row, data_lines, sum_of_first_column}
use Rattle.row_laws.specs.Due.{StartsBeforeItsPeriodEnds}
use Rattle.transcript_laws.specs.Csv.{csv_fields, new_lines}

-- the line that stands above a file
abbrev pub line_above : ℕ → ℕ → List ℕ
line_above period lines = with_number (codes "exported period ") period ++ with_number (codes " lines ") lines

-- Among the text's lines stands one that tells this period and a number, and the file is so many lines behind it.
pub record Shows (text : List ℕ) (period : ℕ) (shown : List ℕ) : Type 0 where
  pub before : TextLines
  pub lines : TextLines
  pub after : TextLines
  pub whole : IsTrue (list_all (lacks 10) (before ++ lines ++ after))
  pub is_text : text ≡ lines_text (before ++ line_above period (length lines) ∷ lines ++ after)
  pub is_shown : shown ≡ lines_text lines

-- The headline, of a text that is a transcript. All that is said of files is said of those that the text shows; how the
-- text came to be is only told by `is_run` and `is_transcript`.
pub record HoldsOfBytes (voters observers agents : ℕ) (sheet : Sheet) (issuer : Issuer) (events : List Event) (text : List ℕ) : Type 0 where
  pub replies : List Reply
  pub world : World
  -- the text has the replies to these events, one behind the other, and nothing else
  pub is_run : play (opening voters observers agents sheet issuer) events ≡ (replies, world)
  pub is_transcript : text ≡ transcript replies
  pub headline : HoldsAfter voters observers agents sheet issuer events replies world
  -- one growing list of cuts, each chosen by a majority
  pub cuts : List Cut
  pub are_the_cuts : AreTheCuts world cuts
  -- two files of one period are the same bytes
  pub agree : (period : ℕ) (one two : List ℕ) → Shows text period one → Shows text period two → one ≡ two
  -- a period's file is that of the journals between the period's cut and the one before it
  pub files : (period : ℕ) (shown : List ℕ) → Shows text period shown →
      (to : Cut) × (slice_get cuts period ≡ Some to) × (shown ≡ file (rows sheet issuer world.journals period (cut_before agents cuts period) to))
  -- its lines are the header line and one line for each row between these cuts, so that `charged_once` speaks of lines
  pub lines : (period : ℕ) (shown : List ℕ) (to : Cut) → Shows text period shown → slice_get cuts period ≡ Some to →
      lines_in shown ≡ record { lines = header_line ∷ map line_of_row (rows sheet issuer world.journals period (cut_before agents cuts period) to); rest = [] }
  -- read as CSV, each line behind the header line gives the row's fields, in the order of the header line
  pub fields : (period : ℕ) (shown : List ℕ) (to : Cut) → Shows text period shown → slice_get cuts period ≡ Some to →
      map csv_fields (data_lines shown) ≡ map fields_of_row (rows sheet issuer world.journals period (cut_before agents cuts period) to)
  -- no row's charge starts when its billing period is over
  pub in_time : (period : ℕ) (to : Cut) → slice_get cuts period ≡ Some to →
      All StartsBeforeItsPeriodEnds (rows sheet issuer world.journals period (cut_before agents cuts period) to)
  -- an export that was answered shows its file, and no other file is shown
  pub each : (s : Snapshot) → Contains replies (Exported s) → Shows text s.period (file_of s)
  pub only : (period : ℕ) (shown : List ℕ) → Shows text period shown →
      (s : Snapshot) × Contains replies (Exported s) × (s.period ≡ period) × (shown ≡ file_of s)
  -- between these cuts each reading is charged as new in one row of one period
  pub charged_once : AreChargedOnce world cuts
  -- Where the file of each period from 0 on is shown, up to some last one, and of each period one is taken, as many lines have a
  -- null ChargeClass as there are readings up to the last of their cuts.
  pub new_once : (shown : List (List ℕ)) → ((period : ℕ) (one : List ℕ) → slice_get shown period ≡ Some one → Shows text period one) →
      length (new_lines shown) ≡ length (charges_up_to sheet world.journals (last_cut agents (take (length shown) cuts)))
  -- And the numbers in their first columns add up to billing each of these readings once, at its value as of that cut.
  pub adds_up : (shown : List (List ℕ)) → ((period : ℕ) (one : List ℕ) → slice_get shown period ≡ Some one → Shows text period one) →
      sum_of_first_column shown
      ≡ Some (sum_of (λ x. x.billed) (charges_up_to sheet world.journals (last_cut agents (take (length shown) cuts))))
