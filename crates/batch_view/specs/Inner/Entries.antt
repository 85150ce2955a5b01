-- What is kept of each record of a batch.
use Rattle.std.specs.Prelude.{◌≡◌, ℕ, ◌+◌, ◌≤◌, List, length, take, drop, slice_range, Option, Some, IfSome, Ok, ℤ, MatchOption}
use Rattle.std.specs.List.{slice_get}
use Rattle.metering_model.specs.Batch.{Record, Reads, Amends}
use Rattle.metering_model.specs.BatchReading.{lines_in, record_in, fields_in}
use Rattle.metering_model.specs.declared.Version.{Version}
use Rattle.record_view.specs.declared.fields.Span.{Span}
use Rattle.record_view.specs.Spans.{spans_at, reading_fields}
use Rattle.batch_view.specs.Batches.{batch_of, line_spans}
use Rattle.batch_view.specs.Inner.Lines.{IsFirstLine, IsBehindLines, first_record, IsHeadOf}
use Rattle.batch_view.specs.declared.entries.Found.{Found}
use Rattle.batch_view.specs.declared.entries.Found.TheVariants.{Reading, Amend}
use Rattle.batch_view.specs.declared.entries.Entry.{Entry}
use Rattle.batch_view.specs.declared.head.Head.{Head}
use denote.Ref.{Bor}

-- how many fields the record has, in a batch of that format
abbrev pub field_total : Version → Found → ℕ
field_total version (Reading kind start end) = reading_fields version
field_total version (Amend seq index) = 4

-- the record has this kind, these stamps or this target, and this value
abbrev pub FitsRecord : Found → ℤ → Record → Type 0
FitsRecord (Reading kind start end) value (Reads r) = (kind ≡ r.kind) × (start ≡ r.start) × (end ≡ r.end) × (value ≡ r.value)
FitsRecord (Reading kind start end) value (Amends seq index v) = ⊥
FitsRecord (Amend s i) value (Reads r) = ⊥
FitsRecord (Amend s i) value (Amends seq index v) = (s ≡ seq) × (i ≡ index) × (value ≡ v)

-- The entry is that of the record which the line at this span is, in a batch of that format.
pub record IsEntryAt (version : Version) (bytes : List ℕ) (line : Span) (e : Entry) : Type 0 where
  pub what : Record
  pub ordered : line.from ≤ line.to
  pub within : line.to ≤ length bytes
  pub read : record_in version (fields_in (slice_range bytes line.from line.to)) ≡ Ok what
  pub fits : FitsRecord e.found e.value what
  pub spans : take (field_total version e.found) e.spans ≡ spans_at bytes line

-- The entry is that of the record at that index, at its line's spans.
pub record IsEntry (version : Version) (bytes : List ℕ) (index : ℕ) (e : Entry) : Type 0 where
  pub line : Span
  pub is_line : slice_get (line_spans 0 (lines_in bytes).lines) (index + 1) ≡ Some line
  pub at : IsEntryAt version bytes line e
  pub stands : first_record version (drop (index + 1) (lines_in bytes).lines) ≡ Ok at.what

-- each is that of the record at its index
abbrev pub AreEntries : Version → List ℕ → List Entry → Type 0
AreEntries version bytes es = (index : ℕ) (e : Entry) → slice_get es index ≡ Some e → IsEntry version bytes index e

-- there is one for each record
pub record AreAllEntries (version : Version) (bytes : List ℕ) (es : List Entry) : Type 0 where
  pub each : AreEntries version bytes es
  pub many : length es ≡ length (batch_of bytes).records

-- What stands there is a line, and the entry is that of its record. The next line begins at `next`.
pub record KeepsRecord (version : Version) (text : List ℕ) (from : ℕ) (e : Entry) (next : ℕ) : Type 0 where
  pub span : Span
  pub is_line : IsFirstLine text from span
  pub behind : next ≡ span.to + 1
  pub at : IsEntryAt version text span e

-- The bytes are a batch of this head, and where entries are kept, they are those of its records.
pub record IsViewOf (bytes : List ℕ) (h : Head) (kept : Option (Bor (List Entry))) : Type 0 where
  pub head : IsHeadOf bytes h
  pub entries : IfSome kept (λ es. AreAllEntries h.version bytes es.now)

-- A walk over the records of such a batch stands before the record at that index; where no entries are kept, its line begins
-- at `at`.
pub record IsWalk (bytes : List ℕ) (h : Head) (kept : Option (Bor (List Entry))) (index at : ℕ) : Type 0 where
  pub view : IsViewOf bytes h kept
  pub within : index ≤ h.count
  pub behind : MatchOption kept (IsBehindLines bytes (index + 1) at) (λ es. Unit {0})
