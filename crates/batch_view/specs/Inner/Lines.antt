-- Where reading stands in a text: at its front, or right behind a line feed.
use Rattle.std.specs.Prelude.{◌≡◌, ℕ, ◌+◌, ◌<◌, ◌≤◌, List, [], ◌∷◌, length, drop, slice_range, Result, Ok, Err}
use Rattle.metering_model.specs.Batch.{Record}
use Rattle.metering_model.specs.declared.Version.{Version}
use Rattle.metering_model.specs.declared.BatchCode.{BatchCode}
use Rattle.metering_model.specs.declared.BatchCode.TheVariants.{Count}
use Rattle.metering_model.specs.BatchReading.{HeadLine, Lines, lines_in, with_line, fields_in, record_in, head_in, batch_in}
use Rattle.metering_model.specs.Limits.{most_batch_bytes}
use Rattle.record_view.specs.Lent.{record_of, IsLentRecord}
use Rattle.batch_view.specs.Batches.{batch_of, line_spans}
use Rattle.record_view.specs.declared.fields.Span.{Span}
use Rattle.batch_view.specs.declared.head.Head.{Head}
use Rattle.record_view.specs.declared.records.Record.{Record as LentRecord}

-- the lines of a text from there on
abbrev pub lines_from : List ℕ → ℕ → Lines
lines_from text from = lines_in (drop from text)

-- At the span stands the first line of what is left from there on.
pub record IsFirstLine (text : List ℕ) (from : ℕ) (span : Span) : Type 0 where
  pub begins : span.from ≡ from
  pub ordered : span.from ≤ span.to
  pub within : span.to < length text
  pub lines : lines_from text from ≡ with_line (slice_range text span.from span.to) (lines_from text (span.to + 1))

-- no line feed is left
abbrev pub HasNoLine : List ℕ → ℕ → Type 0
HasNoLine text from = lines_from text from ≡ record { lines = []; rest = drop from text }

-- So many lines of the text lie before that place, and the others from there on.
pub record IsBehindLines (text : List ℕ) (count at : ℕ) : Type 0 where
  pub within : at ≤ length text
  pub lines : (lines_from text at).lines ≡ drop count (lines_in text).lines
  pub rest : (lines_from text at).rest ≡ (lines_in text).rest
  pub spans : line_spans at (drop count (lines_in text).lines) ≡ drop count (line_spans 0 (lines_in text).lines)

-- the record that the first of these lines is in a batch of that format, or what is wrong with it
abbrev pub first_record : Version → List (List ℕ) → Result Record BatchCode
first_record version [] = Err Count
first_record version (l ∷ ls) = record_in version (fields_in l)

-- What stands there is a line, and a record is lent from it. The next line begins at `next`.
pub record LendsRecord (version : Version) (text : List ℕ) (from : ℕ) (r : LentRecord) (next : ℕ) : Type 0 where
  pub span : Span
  pub is_line : IsFirstLine text from span
  pub behind : next ≡ span.to + 1
  pub record_is : record_in version (fields_in (slice_range text span.from span.to)) ≡ Ok (record_of r)
  pub lent : IsLentRecord text span r

abbrev pub head_line : Head → HeadLine
head_line h = record { version = h.version; agent = h.agent; seq = h.seq; count = h.count }

-- The first line of the text is this head.
pub record BeginsWithHead (text : List ℕ) (h : Head) : Type 0 where
  pub head_text : List ℕ
  pub first : (lines_in text).lines ≡ head_text ∷ drop 1 (lines_in text).lines
  pub head : head_in (fields_in head_text) ≡ Ok (head_line h)
  pub behind : IsBehindLines text 1 h.records_from

-- The bytes are a batch, and no longer than one may be.
pub record AreBatch (bytes : List ℕ) : Type 0 where
  pub short : length bytes ≤ most_batch_bytes
  pub batch : batch_in bytes ≡ Ok (batch_of bytes)

-- The bytes are a batch, and these are the format and the numbers of its head.
pub record IsHeadOf (bytes : List ℕ) (h : Head) : Type 0 where
  pub are : AreBatch bytes
  pub version : h.version ≡ (batch_of bytes).version
  pub agent : h.agent ≡ (batch_of bytes).agent
  pub seq : h.seq ≡ (batch_of bytes).seq
  pub count : h.count ≡ length (batch_of bytes).records
  pub behind : IsBehindLines bytes 1 h.records_from
