-- How a fault of an input is told: by the line of the whole input on which it stands, its code, and what is known of it.
use Rattle.std.specs.Prelude.{ℕ, ◌+◌, ◌-◌, nat_le, if◌then◌else◌, List, [], ◌++◌, length, Option, Some, None, Result, Ok, Err, codes, slice_get}
use Rattle.std.specs.Option.{is_some, option_and_then, option_map}
use Rattle.std.specs.Str.{is_utf8}
use Rattle.metering_model.specs.FirstFailure.{◌>>=◌, holds_or}
use Rattle.metering_model.specs.Limits.{most_issuer_lines, most_sheet_lines}
use Rattle.metering_model.specs.Batch.{Amends, Reads, Record}
use Rattle.metering_model.specs.Dates.{day_of}
use Rattle.metering_model.specs.declared.Refusal.{Refusal}
use Rattle.metering_model.specs.declared.Refusal.TheVariants as refusal
use Rattle.metering_model.specs.Holding.{Holding, placed, put}
use Rattle.metering_model.specs.PriceInForce.{price_in_force}
use Rattle.metering_model.specs.Sheet as model
use Rattle.metering_model.specs.Transcript.{code_text, kept_code_text, line, refusal_text, with_number}
use Rattle.batch_view.specs.Batches.{batch_of}
use Rattle.journal_rules.specs.FirstBad.{first_bad}
use Rattle.price_sheet.specs.SheetReading.{sheet_of_text}
use Rattle.sheet_text.specs.IssuerReading.{issuer_of_text}
use Rattle.input_sections.specs.declared.faults.ScheduleCode.{ScheduleCode}
use Rattle.input_sections.specs.declared.faults.ScheduleCode.TheVariants as code
use Rattle.input_sections.specs.declared.faults.ScheduleFault.{ScheduleFault}
use Rattle.input_sections.specs.declared.faults.ScheduleFault.TheVariants as section
use Rattle.input_sections.specs.Sections.{Section, Unread, lines_left, section_in, section_of, whole_of}
use Rattle.answer_words.specs.Words.{section_code_text}
use Rattle.fault_lines.specs.Fields.{field_name, field_of}
use Rattle.fault_lines.specs.TextKinds.{batch_words, kind_words, opening_words}
use Rattle.fault_lines.specs.TomlStops.{issuer_words, sheet_words}
use Rattle.fault_lines.specs.declared.fields.RecordField.{RecordField}

-- ---- a line of what is said

-- the line of the whole input on which something is wrong, and in which words
abbrev pub told_at : ℕ → List ℕ → List ℕ
told_at n words = line (with_number (codes "line ") n ++ codes ": " ++ words)

-- ---- a section

-- what is left of a text from a line on, counted from 1; the code where the text has fewer lines
unfoldable pub from_line : ScheduleCode → ℕ → List ℕ → Result Unread ScheduleFault
from_line code n text = do
  u ← whole_of text
  _ ← holds_or (nat_le (n - 1) (length (lines_left u))) (section.Refused code n)
  Ok (section_of (n - 1) u).rest

-- the text of the section that such a line opens
abbrev pub text_of : Result Section ScheduleFault → Option (List ℕ)
text_of (Ok s) = Some s.text
text_of (Err fault) = None

unfoldable pub section_on : ScheduleCode → List ℕ → ℕ → ℕ → List ℕ → Option (List ℕ)
section_on code word most n text = text_of (from_line code n text >>= λ (u : Unread). section_in code word most u)

-- what its reader says of it: in words that may look at its text
abbrev pub said_by : {A E : Type 0} → (E → List ℕ) → Result A E → List ℕ
said_by words (Ok x) = []
said_by words (Err fault) = codes " " ++ words fault

unfoldable pub said_of_text : {A E : Type 0} → (E → List ℕ) → (List ℕ → Result A E) → List ℕ → List ℕ
said_of_text words reader text = if is_utf8 text then said_by words (reader text) else codes " not UTF-8"

abbrev pub said_of : {A E : Type 0} → (List ℕ → E → List ℕ) → (List ℕ → Result A E) → List ℕ → Option (List ℕ) → List ℕ
said_of words reader otherwise (Some text) = said_of_text (words text) reader text
said_of words reader otherwise None = otherwise

-- Of a section with a sheet or an issuer what its reader says, which are the ones with readers of their own, or what the line is that was to
-- open one; of a text without a head what it is.
abbrev pub reason : List ℕ → ScheduleCode → ℕ → List ℕ
reason text code.Sheet n = said_of (sheet_words n) sheet_of_text (opening_words text n) (section_on code.Sheet (codes "sheet ") most_sheet_lines n text)
reason text code.Issuer n = said_of (issuer_words n) issuer_of_text (opening_words text n) (section_on code.Issuer (codes "issuer ") most_issuer_lines n text)
reason text code.Head n = kind_words text
reason text code.Nodes n = []
reason text code.Agents n = []
reason text code.Event n = []
reason text code.Lines n = []
reason text code.TooLong n = []

-- the line of the fault that a text has as a schedule, or by its sections
abbrev pub said_of_fault : List ℕ → ScheduleFault → List ℕ
said_of_fault text (section.Refused code n) = told_at n (section_code_text code ++ reason text code n)
said_of_fault text section.OutOfMemory = []

-- ---- a refusal

-- The code of a refusal and what it tells, but for a line: that is told as one of the whole input.
abbrev pub words_of : Refusal → List ℕ
words_of (refusal.BadBatch fault) = codes "G1 " ++ code_text fault.code
words_of (refusal.BadKept fault) = codes "G14 " ++ kept_code_text fault.code
words_of other = refusal_text other

-- ---- a batch that is refused

-- the index of the first record of a text's batch that breaks a rule of the journals, which have the batch too
abbrev pub bad_index : model.Sheet → Holding → List ℕ → Option ℕ
bad_index sheet h text = option_map (λ p. p.index) (first_bad sheet (put h (batch_of text)) (placed (batch_of text)))

-- A batch's first line is its head, and below it stand its records.
abbrev pub line_of : Option ℕ → ℕ
line_of (Some index) = index + 2
line_of None = 1

-- On which line of its own text a batch is refused, where this is its first bad record: agent and sequence stand in the head
-- line. A full world is not told of the text.
abbrev pub line_within : Option ℕ → Refusal → ℕ
line_within bad (refusal.BadBatch fault) = fault.line
line_within bad (refusal.WrongSeq wanted) = 1
line_within bad refusal.NoAgent = 1
line_within bad refusal.BadTarget = line_of bad
line_within bad refusal.Unpriced = line_of bad
line_within bad other = 0

abbrev pub field_words : Option RecordField → List ℕ
field_words None = []
field_words (Some field) = codes " " ++ field_name field

-- of a bad record: an amendment's target, or what a reading lacks, which is a price on its day, or else that commitment
abbrev pub record_words : model.Sheet → Option Record → List ℕ
record_words sheet None = []
record_words sheet (Some (Amends seq index value)) = with_number (codes " ") seq ++ with_number (codes " ") index
record_words sheet (Some (Reads r)) =
    if is_some (price_in_force sheet r.key (day_of r.start)) then codes " commitment " ++ r.commitment else codes " price " ++ r.key

abbrev pub record_at : List ℕ → Option ℕ → Option Record
record_at text index = option_and_then (slice_get (batch_of text).records) index

-- what is told behind the code: of a batch's own fault the field, and what its text or its line is, of a bad record its words
abbrev pub more_words : model.Sheet → List ℕ → Option ℕ → Refusal → List ℕ
more_words sheet text bad (refusal.BadBatch fault) = field_words (field_of text fault) ++ batch_words text fault
more_words sheet text bad refusal.BadTarget = record_words sheet (record_at text bad)
more_words sheet text bad refusal.Unpriced = record_words sheet (record_at text bad)
more_words sheet text bad other = []

-- of a text behind so many lines of the input, which is refused as a batch of journals with this first bad record
abbrev pub told_of_text : ℕ → model.Sheet → List ℕ → Option ℕ → Refusal → List ℕ
told_of_text lines sheet text bad why = told_at (lines + line_within bad why) (words_of why ++ more_words sheet text bad why)
