-- The batch that bytes are, and how its records are handed out.
use Rattle.std.specs.Prelude.{◌≡◌, ℕ, ◌+◌, List, [], ◌∷◌, length, drop, Option, Some, Result, Ok, Err, MatchOption, IfSome}
use Rattle.std.specs.List.{slice_get}
use Rattle.std.specs.Iterator.{YieldsFirstBy}
use Rattle.metering_model.specs.Batch.{Batch, Record}
use Rattle.metering_model.specs.declared.BatchFault.{BatchFault}
use Rattle.metering_model.specs.declared.Version.TheVariants.{B1}
use Rattle.metering_model.specs.BatchReading.{batch_in, lines_in}
use Rattle.record_view.specs.Lent.{record_of, IsLentRecord}
use Rattle.record_view.specs.declared.fields.Span.{Span}
use Rattle.record_view.specs.declared.records.Record.{Record as LentRecord}

-- a batch of no records stands for a text that is none
abbrev pub or_empty : Result Batch BatchFault → Batch
or_empty (Ok b) = b
or_empty (Err f) = record { version = B1; agent = 0; seq = 0; records = [] }

-- the batch that these bytes are
unfoldable pub batch_of : List ℕ → Batch
batch_of bytes = or_empty (batch_in bytes)

-- where these lines stand, the first of them at `from`; the line feeds are not in the spans
abbrev pub line_spans : ℕ → List (List ℕ) → List Span
line_spans from [] = []
line_spans from (l ∷ ls) = record { from = from; to = from + length l } ∷ line_spans (from + length l + 1) ls

-- The record is lent from its line, at the line's span: that of the record at `index`, behind the head line.
pub record IsLentAt (bytes : List ℕ) (index : ℕ) (r : LentRecord) : Type 0 where
  pub span : Span
  pub is_line : slice_get (line_spans 0 (lines_in bytes).lines) (index + 1) ≡ Some span
  pub lent : IsLentRecord bytes span r

-- a walk over the records of a batch: the bytes, and the index of the record that comes next
pub record RecordsLeft : Type 0 where
  pub bytes : List ℕ
  pub index : ℕ

abbrev pub records_left : RecordsLeft → List Record
records_left walk = drop walk.index (batch_of walk.bytes).records

-- A call of `next` gives the first record that is left, lent from its line, or None at the end.
pub record GivesNext (old : RecordsLeft) (given : Option LentRecord) (new : RecordsLeft) : Type 0 where
  pub first : YieldsFirstBy record_of records_left old given new
  pub lent : IfSome given (IsLentAt old.bytes old.index)
  pub walk : MatchOption given (new ≡ old) (λ r. new ≡ record { bytes = old.bytes; index = old.index + 1 })
