-- Lines in what is ahead.
use Rattle.std.specs.Prelude.{◌≡◌, ℕ, ◌+◌, ◌<◌, ◌≤◌, true, List, ◌++◌, length, take, drop, Option}
use Rattle.std.specs.List.{list_all}
use Rattle.std.specs.Io.KnownBytes.{IsAtEnd}
use Rattle.metering_model.specs.Batch.{lacks}
use Rattle.metering_model.specs.BatchReading.{lines_in}
use Rattle.metering_model.specs.Transcript.{line}
use Rattle.metering_model.specs.Schedule.{TextLines, lines_text}
use Rattle.line_source.specs.declared.lines.Found.{Found}
use Rattle.line_source.specs.declared.lines.Found.TheVariants as found

-- a line ends at that byte
pub record IsLineAt (text : List ℕ) (at : ℕ) : Type 0 where
  pub within : at < length text
  pub whole : lacks 10 (take at text) ≡ true
  pub split : text ≡ line (take at text) ++ drop (at + 1) text

-- So many lines stand at the beginning of a text, and have so many bytes.
pub record AreInFront (text : List ℕ) (count at : ℕ) : Type 0 where
  pub lines : TextLines
  pub whole : list_all (lacks 10) lines ≡ true
  pub counted : length lines ≡ count
  pub within : at ≤ length text
  pub split : text ≡ lines_text lines ++ drop at text
  pub size : length (lines_text lines) ≡ at

-- At most so many lines, and at least one where a line ends in the text and one is asked for.
pub record IsShareOf (most : ℕ) (text : List ℕ) (count : ℕ) : Type 0 where
  pub few : count ≤ most
  pub some : (end : ℕ) → IsLineAt text end → 0 < most → 0 < count

-- So many lines stand from the one place in a text to the other.
pub record AreBetween (from end : ℕ) (text : List ℕ) (count : ℕ) : Type 0 where
  pub lines : TextLines
  pub whole : list_all (lacks 10) lines ≡ true
  pub counted : length lines ≡ count
  pub ordered : from ≤ end
  pub within : end ≤ length text
  pub are_lines : drop from (take end text) ≡ lines_text lines

-- fewer lines stand behind that place, and no more comes
abbrev pub AreFewer : ℕ → ℕ → List ℕ → Option (List ℕ) → Type 0
AreFewer from count text left = (length (lines_in (drop from text)).lines < count) × IsAtEnd left

-- fewer lines stand behind that place, and more than so many bytes are ahead in all
abbrev pub AreCutOff : (from count most : ℕ) → List ℕ → Type 0
AreCutOff from count most text = (length (lines_in (drop from text)).lines < count) × (most < length text)

-- fewer lines stand behind that place, and no more than so many bytes are ahead in all
abbrev pub AreShort : (from count most : ℕ) → List ℕ → Type 0
AreShort from count most text = (length (lines_in (drop from text)).lines < count) × (length text ≤ most)

-- what is said of lines that are looked for within so many bytes
abbrev pub IsFound : (from count most : ℕ) → List ℕ → Option (List ℕ) → Found → Type 0
IsFound from count most text left (found.Lines end) = AreBetween from end text count
IsFound from count most text left found.Fewer = AreFewer from count text left
IsFound from count most text left found.CutOff = AreCutOff from count most text
