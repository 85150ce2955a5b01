-- What was taken of a transcript's lines, and what was written of them.
use Rattle.std.specs.Prelude.{◌≡◌, ℕ, ◌+◌, ◌≤◌, min, true, List, ◌++◌, length, Option, Some, None}
use Rattle.std.specs.List.{list_all}
use Rattle.std.specs.Io.KnownBytes.{Appends, Consumes, IsAtEnd}
use Rattle.counted_io.specs.Writing.{AppendsPrefix}
use Rattle.metering_model.specs.Batch.{lacks}
use Rattle.metering_model.specs.Limits.{most_transcript_bytes}
use Rattle.metering_model.specs.Transcript.{line}
use Rattle.metering_model.specs.Schedule.{TextLines, lines_text}
use Rattle.line_source.specs.Reading.{Takes, TakesLine}
use Rattle.transcript_laws.specs.FirstFiles.{NoFile, first_file, first_of_lines, lines_told, told_behind}

-- what is told of a line: the number, or where that is great another that is too great
abbrev pub IsTold : Option ℕ → Option ℕ → Type 0
IsTold (Some count) told = (number : ℕ) × (told ≡ Some number) × (count ≡ min (most_transcript_bytes + 1) number)
IsTold None told = told ≡ None

-- A line was taken, and that is told of it behind these words.
pub record TakesTold (words : List ℕ) (told : Option ℕ) (ahead rest : List ℕ) (read read' : ℕ) (left left' : Option (List ℕ)) : Type 0 where
  pub taken : TakesLine ahead rest read read' left left'
  pub is_told : IsTold told (told_behind words taken.text)

-- All was read, and no line from the bytes ahead on stands above a file of the period.
pub record EndsUntold (period : ℕ) (ahead : List ℕ) (read read' : ℕ) (left left' : Option (List ℕ)) : Type 0 where
  pub came : List ℕ
  pub consumed : Consumes left left' came
  pub counted : read' ≡ read + length came
  pub end : IsAtEnd left'
  pub none : first_file period (ahead ++ came) ≡ NoFile

-- Whole lines, of which none stands above a file of the period.
pub record AreUntold (period : ℕ) (lines : TextLines) : Type 0 where
  pub whole : list_all (lacks 10) lines ≡ true
  pub none : first_of_lines period lines ≡ NoFile

-- Such lines were taken.
pub record Passes (period : ℕ) (ahead rest : List ℕ) (read read' : ℕ) (left left' : Option (List ℕ)) : Type 0 where
  pub lines : TextLines
  pub untold : AreUntold period lines
  pub takes : Takes ahead rest read read' left left' (lines_text lines)

-- Then one that does was taken, and it tells that so many lines follow.
pub record Finds (period count : ℕ) (ahead rest : List ℕ) (read read' : ℕ) (left left' : Option (List ℕ)) : Type 0 where
  pub lines : TextLines
  pub untold : AreUntold period lines
  pub above : List ℕ
  pub lacks_feed : lacks 10 above ≡ true
  pub is_told : IsTold (Some count) (lines_told period above)
  pub takes : Takes ahead rest read read' left left' (lines_text lines ++ line above)

-- So many of the lines ahead were written, and taken.
pub record CopiesAhead (count : ℕ) (ahead rest : List ℕ) (old new : Option (List ℕ)) : Type 0 where
  pub lines : TextLines
  pub whole : list_all (lacks 10) lines ≡ true
  pub counted : length lines ≡ count
  pub split : ahead ≡ lines_text lines ++ rest
  pub appended : Appends old new (lines_text lines)

-- Of at most so many of the lines ahead a prefix was written, and not all of them.
pub record StopsAhead (most : ℕ) (ahead : List ℕ) (old new : Option (List ℕ)) : Type 0 where
  pub lines : TextLines
  pub rest : List ℕ
  pub whole : list_all (lacks 10) lines ≡ true
  pub few : length lines ≤ most
  pub split : ahead ≡ lines_text lines ++ rest
  pub appended : AppendsPrefix old new (lines_text lines)

-- Lines were taken and written, fewer by so many than were asked for.
pub record Copies (asked lacking : ℕ) (ahead rest : List ℕ) (read read' : ℕ) (left left' : Option (List ℕ)) (old new : Option (List ℕ)) : Type 0 where
  pub lines : TextLines
  pub whole : list_all (lacks 10) lines ≡ true
  pub counted : length lines + lacking ≡ asked
  pub takes : Takes ahead rest read read' left left' (lines_text lines)
  pub appended : Appends old new (lines_text lines)

-- Copying stopped: of lines that were read, at most as many as were asked for, so much was written as `Appended` says.
pub record Stops (Appended : Option (List ℕ) → Option (List ℕ) → List ℕ → Type 0) (asked : ℕ) (ahead : List ℕ) (read read' : ℕ) (left left' : Option (List ℕ)) (old new : Option (List ℕ)) : Type 0 where
  pub lines : TextLines
  pub rest : List ℕ
  pub whole : list_all (lacks 10) lines ≡ true
  pub few : length lines ≤ asked
  pub takes : Takes ahead rest read read' left left' (lines_text lines)
  pub appended : Appended old new (lines_text lines)
