-- Reading a text line by line, and the sections in it: what stands there, or the first fault.
use Rattle.std.specs.Prelude.{◌≡◌, ℕ, ◌+◌, Bool, nat_le, if◌then◌else◌, List, [], ◌∷◌, length, take, drop, Option, None, Result, Ok, Err, ok_or, codes}
use Rattle.std.specs.Str.{is_utf8}
use Rattle.metering_model.specs.Limits.{most_sheet_lines, most_issuer_lines, most_input_bytes}
use Rattle.metering_model.specs.FirstFailure.{◌>>=◌, holds_or}
use Rattle.metering_model.specs.BatchReading.{is_same, lines_in, whole_in}
use Rattle.metering_model.specs.Schedule.{lines_text}
use Rattle.metering_model.specs.Sheet as model
use Rattle.metering_model.specs.Transcript.{line_count}
use Rattle.price_sheet.specs.SheetReading.{sheet_of_text}
use Rattle.sheet_text.specs.IssuerReading.{issuer_of_text}
use Rattle.input_sections.specs.declared.faults.ScheduleCode.{ScheduleCode}
use Rattle.input_sections.specs.declared.faults.ScheduleCode.TheVariants.{Sheet, Issuer, Lines, TooLong}
use Rattle.input_sections.specs.declared.faults.ScheduleFault.{ScheduleFault}
use Rattle.input_sections.specs.declared.faults.ScheduleFault.TheVariants.{Refused}

-- A text of which a front was read: the first byte that is left, and the line that begins there, counted from 1.
pub record Unread : Type 0 where
  pub text : List ℕ
  pub from : ℕ
  pub line : ℕ

abbrev pub left : Unread → List ℕ
left u = drop u.from u.text

-- The line is counted in the text: one more than the line feeds that stand before what is left.
abbrev pub IsCounted : Unread → Type 0
IsCounted u = u.line ≡ 1 + line_count (take u.from u.text)

-- the lines that are left, without their line feeds
abbrev pub lines_left : Unread → List (List ℕ)
lines_left u = (lines_in (left u)).lines

-- all of a text, if it is not too long
abbrev pub whole_of : List ℕ → Result Unread ScheduleFault
whole_of text = do
  _ ← holds_or (nat_le (length text) most_input_bytes) (Refused TooLong 1)
  Ok (record { text = text; from = 0; line = 1 })

abbrev pub begins_with : List ℕ → List ℕ → Bool
begins_with word text = is_same (take (length word) text) word

-- the code of the line that comes next, where it isn't there: it is absent, or lacks its line feed
abbrev pub code_of_end : ScheduleCode → List ℕ → ScheduleCode
code_of_end code [] = code
code_of_end code (c ∷ cs) = Lines

-- the first of the lines that are left, and what is left behind it
abbrev pub first_of : ScheduleCode → Unread → List (List ℕ) → Result (List ℕ × Unread) ScheduleFault
first_of code u [] = Err (Refused (code_of_end code (left u)) u.line)
first_of code u (l ∷ ls) = Ok (l, record u { from = u.from + length l + 1; line = u.line + 1 })

abbrev pub first_line : ScheduleCode → Unread → Result (List ℕ × Unread) ScheduleFault
first_line code u = first_of code u (lines_left u)

-- the number behind a word in a line, from 1 to the most
abbrev pub number_behind : List ℕ → ℕ → List ℕ → Option ℕ
number_behind word most line = if begins_with word line then whole_in 1 most (drop (length word) line) else None

-- The text of the lines of a section, each with its line feed, and what is left behind them.
pub record Section : Type 0 where
  pub text : List ℕ
  pub rest : Unread

-- so many lines
abbrev pub section_of : ℕ → Unread → Section
section_of n u =
    let text = lines_text (take n (lines_left u)) in
    record { text = text; rest = record u { from = u.from + length text; line = u.line + n } }

-- the section that a line with the word and the number of its lines opens
unfoldable pub section_in : ScheduleCode → List ℕ → ℕ → Unread → Result Section ScheduleFault
section_in code word most u = do
  opening ← first_line code u
  n ← ok_or (number_behind word most opening.0) (Refused code u.line)
  _ ← holds_or (nat_le n (length (lines_left opening.1))) (Refused Lines u.line)
  Ok (section_of n opening.1)

-- whatever fault a reader has is told so
abbrev pub told : {A E : Type 0} → ScheduleFault → Result A E → Result A ScheduleFault
told fault (Ok x) = Ok x
told fault (Err e) = Err fault

-- what a reader makes of a text that is UTF-8
unfoldable pub read_as : {A E : Type 0} → (List ℕ → Result A E) → ScheduleFault → List ℕ → Result A ScheduleFault
read_as read fault text = do
  _ ← holds_or (is_utf8 text) fault
  told fault (read text)

-- the section stands there, and its text is such a one
abbrev pub HasText : (List ℕ → Type 0) → Result Section ScheduleFault → Type 0
HasText fits (Ok s) = fits s.text
HasText fits (Err fault) = ⊥

-- a sheet, and an issuer, in a section of its own
unfoldable pub sheet_section : Unread → Result (model.Sheet × Unread) ScheduleFault
sheet_section u = do
  s ← section_in Sheet (codes "sheet ") most_sheet_lines u
  sheet ← read_as sheet_of_text (Refused Sheet u.line) s.text
  Ok (sheet, s.rest)

unfoldable pub issuer_section : Unread → Result (model.Issuer × Unread) ScheduleFault
issuer_section u = do
  s ← section_in Issuer (codes "issuer ") most_issuer_lines u
  issuer ← read_as issuer_of_text (Refused Issuer u.line) s.text
  Ok (issuer, s.rest)
