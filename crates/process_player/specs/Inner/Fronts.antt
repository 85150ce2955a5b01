-- Where a preamble ends in what is ahead, by its lines, and what of it is judged.
use Rattle.std.specs.Prelude.{◌≡◌, ℕ, ◌<◌, ◌≤◌, true, List, [], ◌∷◌, length, take, drop, Option, Some, None, ◌⊎◌}
use Rattle.std.specs.List.{list_all}
use Rattle.std.specs.Io.KnownBytes.{IsAtEnd}
use Rattle.metering_model.specs.Batch.{lacks}
use Rattle.metering_model.specs.BatchReading.{lines_in}
use Rattle.metering_model.specs.Limits.{most_input_bytes}
use Rattle.metering_model.specs.Schedule.{TextLines, lines_text}
use Rattle.input_sections.specs.Sections.{number_behind}
use Rattle.line_source.specs.Lines.{AreBetween}
use Rattle.process_player.specs.declared.heads.ProcessKind.{ProcessKind}
use Rattle.process_player.specs.declared.preambles.Judged.{Judged}
use Rattle.process_player.specs.declared.preambles.Judged.TheVariants.{Whole, Part}
use Rattle.process_player.specs.Refusals.{EndWrong, HeadsAreRight, preamble_lines, section_lines}

abbrev pub end_of : Judged → ℕ
end_of (Whole end) = end
end_of (Part end) = end

-- nothing more is read: no more comes, or more is ahead than a preamble may have
abbrev pub IsOver : (text : List ℕ) (left : Option (List ℕ)) → Type 0
IsOver text left = IsAtEnd left ⊎ (most_input_bytes < length text)

-- that place is the end of all that is read
abbrev pub IsLast : (end : ℕ) (text : List ℕ) (left : Option (List ℕ)) → Type 0
IsLast end text left = (end ≡ length text) × IsOver text left

-- no section is ahead behind that place
abbrev pub IsSectionShort : (word : List ℕ) (most from : ℕ) (text : List ℕ) → Type 0
IsSectionShort word most from text = section_lines word most (lines_in (drop from text)).lines ≡ None

-- no preamble is ahead
abbrev pub IsPreambleShort : List ℕ → Type 0
IsPreambleShort text = preamble_lines (lines_in text).lines ≡ None

-- so many lines are not ahead behind that place
abbrev pub AreAbsent : (from count : ℕ) (text : List ℕ) (left : Option (List ℕ)) → Type 0
AreAbsent from count text left = (length (lines_in (drop from text)).lines < count) × IsOver text left

-- a section stands from the one place to the other, with less than a block behind it
pub record IsSection (word : List ℕ) (most from end : ℕ) (text : List ℕ) : Type 0 where
  pub count : ℕ
  pub between : AreBetween from end text count
  pub said : section_lines word most between.lines ≡ Some count
  pub at_hand : length (drop end text) < 65_536

-- a line stands from the one place to the other, which opens no section
pub record OpensNone (word : List ℕ) (most from end : ℕ) (text : List ℕ) : Type 0 where
  pub one : List ℕ
  pub between : AreBetween from end text 1
  pub is_one : between.lines ≡ one ∷ []
  pub said : number_behind word most one ≡ None

-- no section stands from the one place to the other, and no more has to be read to know that there is none
pub record IsNoSection (word : List ℕ) (most from end : ℕ) (text : List ℕ) (left : Option (List ℕ)) : Type 0 where
  pub ordered : from ≤ end
  pub none : section_lines word most (lines_in (drop from (take end text))).lines ≡ None
  pub judged : IsLast end text left ⊎ OpensNone word most from end text

abbrev pub IsSectionTo : (word : List ℕ) (most from : ℕ) (text : List ℕ) (left : Option (List ℕ)) → Judged → Type 0
IsSectionTo word most from text left (Whole end) = IsSection word most from end text
IsSectionTo word most from text left (Part end) = IsNoSection word most from end text left

-- whole lines stand up to there, of which the last is the first that is wrong
pub record IsWrongAt (k : ProcessKind) (end : ℕ) (text : List ℕ) : Type 0 where
  pub lines : TextLines
  pub whole : list_all (lacks 10) lines ≡ true
  pub are_lines : take end text ≡ lines_text lines
  pub wrong : EndWrong k lines

-- no preamble stands up to there, and no more has to be read to know that there is none
pub record IsNoPreamble (k : ProcessKind) (end : ℕ) (text : List ℕ) (left : Option (List ℕ)) : Type 0 where
  pub none : preamble_lines (lines_in (take end text)).lines ≡ None
  pub judged : IsLast end text left ⊎ IsWrongAt k end text

-- a preamble stands at the front, and ends there, with less than a block behind it
pub record IsPreambleAt (end : ℕ) (text : List ℕ) : Type 0 where
  pub count : ℕ
  pub between : AreBetween 0 end text count
  pub said : preamble_lines between.lines ≡ Some count
  pub at_hand : length (drop end text) < 65_536

-- two lines stand at the front and end there, with less than a block behind them: the kind's, and one that heads a log of
-- such a process
pub record AreHeads (k : ProcessKind) (end : ℕ) (text : List ℕ) : Type 0 where
  pub between : AreBetween 0 end text 2
  pub one : List ℕ
  pub own : List ℕ
  pub are_these : between.lines ≡ one ∷ own ∷ []
  pub right : HeadsAreRight k one own
  pub at_hand : length (drop end text) < 65_536

abbrev pub AreHeadsTo : ProcessKind → (text : List ℕ) (left : Option (List ℕ)) → Judged → Type 0
AreHeadsTo k text left (Whole end) = AreHeads k end text
AreHeadsTo k text left (Part end) = IsNoPreamble k end text left

abbrev pub IsPreambleTo : ProcessKind → (text : List ℕ) (left : Option (List ℕ)) → Judged → Type 0
IsPreambleTo k text left (Whole end) = IsPreambleAt end text
IsPreambleTo k text left (Part end) = IsNoPreamble k end text left
