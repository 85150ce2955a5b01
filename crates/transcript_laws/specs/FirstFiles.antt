-- The first file of a period in a text, as whoever cuts it out with a knife would: the first line that reads like one above such a
-- file says how many lines the file has, and it is these.
use Rattle.std.specs.Prelude.{◌≡◌, ℕ, ◌&&◌, nat_le, slice_get, if◌then◌else◌, List, [], ◌∷◌, ◌++◌, length, take, drop, Option, Some, None, codes}
use Rattle.metering_model.specs.NumberText.{is_whole_part, number_of}
use Rattle.metering_model.specs.BatchReading.{is_same, lines_in}
use Rattle.metering_model.specs.Transcript.{with_number}
use Rattle.metering_model.specs.Schedule.{TextLines, lines_text}
use Rattle.metering_model.specs.Sheet.{Sheet, Issuer}
use Rattle.metering_model.specs.Cut.{Cut}
use Rattle.metering_model.specs.Rows.{rows}
use Rattle.metering_model.specs.File.{file}
use Rattle.metering_model.specs.World.{Event}
use Rattle.metering_model.specs.Step.{cut_before}
use Rattle.transcript_laws.specs.Shown.{Shows, HoldsOfBytes}

-- what a text holds of it
pub data FirstFile : Type 0 where
  -- no line reads like one above a file of the period
  NoFile : FirstFile
  -- one does, but fewer whole lines follow than it says: all those that do
  TornFile : (part : List ℕ) → FirstFile
  WholeFile : (whole : List ℕ) → FirstFile

-- the number that a line says behind these words, in the one spelling that a number has
abbrev pub told_behind : List ℕ → List ℕ → Option ℕ
told_behind words line =
    if is_same (take (length words) line) words && is_whole_part (drop (length words) line) then Some (number_of (drop (length words) line)) else None

-- the words of the line that stands above a file of this period
abbrev pub words_above : ℕ → List ℕ
words_above period = with_number (codes "exported period ") period ++ codes " lines "

-- how many lines the file has, where the line reads like one above a file of this period
abbrev pub lines_told : ℕ → List ℕ → Option ℕ
lines_told period line = told_behind (words_above period) line

-- so many of these lines
abbrev pub file_of_lines : ℕ → TextLines → FirstFile
file_of_lines count ls = if nat_le count (length ls) then WholeFile (lines_text (take count ls)) else TornFile (lines_text ls)

-- where the line above says a number, so many of the lines behind it, else what was found there
abbrev pub file_behind : Option ℕ → TextLines → FirstFile → FirstFile
file_behind (Some count) ls later = file_of_lines count ls
file_behind None ls later = later

abbrev pub first_of_lines : ℕ → TextLines → FirstFile
first_of_lines period [] = NoFile
first_of_lines period (l ∷ ls) = file_behind (lines_told period l) ls (first_of_lines period ls)

-- the first file of the period among the whole lines of a text
abbrev pub first_file : ℕ → List ℕ → FirstFile
first_file period text = first_of_lines period (lines_in text).lines

-- the bytes of it that the text has
abbrev pub part_of : FirstFile → List ℕ
part_of NoFile = []
part_of (TornFile part) = part
part_of (WholeFile whole) = whole

-- The text shows the file under the period, and it is the FOCUS file of what was journaled between the period's cut and the one
-- before it.
abbrev pub IsPeriodsFile : {voters observers agents : ℕ} {sheet : Sheet} {issuer : Issuer} {events : List Event} {text : List ℕ} → HoldsOfBytes voters observers agents sheet issuer events text → ℕ → List ℕ → Type 0
IsPeriodsFile {voters} {observers} {agents} {sheet} {issuer} {events} {text} holds period shown =
    Shows text period shown
    × ((to : Cut) × (slice_get holds.cuts period ≡ Some to) × (shown ≡ file (rows sheet issuer holds.world.journals period (cut_before agents holds.cuts period) to)))
