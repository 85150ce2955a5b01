-- Where the fields of a record's line stand, and a reading whose numbers were read there before.
use Rattle.std.specs.Prelude.{◌≡◌, ℕ, ◌≤◌, length, take, List, map, slice_range, Ok, ℤ}
use Rattle.metering_model.specs.declared.Kind.{Kind}
use Rattle.metering_model.specs.Batch as model
use Rattle.metering_model.specs.declared.Version.{Version}
use Rattle.metering_model.specs.declared.Version.TheVariants.{B1, B2}
use Rattle.metering_model.specs.BatchReading.{record_in, fields_in}
use Rattle.record_view.specs.declared.fields.Span.{Span}
use Rattle.record_view.specs.declared.kept.Numbers.{Numbers}
use Rattle.record_view.specs.Parts.{LentText}
use Rattle.record_view.specs.Lent.{fields_at, record_of, IsLentRecord}
use Rattle.record_view.specs.declared.records.Record as lent_record

abbrev pub span_of : LentText → Span
span_of t = record { from = t.from; to = t.to }

-- the spans of a line's fields, from left to right
abbrev pub spans_at : List ℕ → Span → List Span
spans_at source line = map span_of (fields_at source line)

-- a reading of format B1 has nine fields, one of B2 ten
abbrev pub reading_fields : Version → ℕ
reading_fields B1 = 9
reading_fields B2 = 10

-- an amendment has four in both
abbrev pub field_count : Version → lent_record.Record → ℕ
field_count version (lent_record.TheVariants.Reading r) = reading_fields version
field_count version (lent_record.TheVariants.Amend seq index value) = 4

-- The record is lent from the line, and is the one that the line is read as.
pub record IsRecordAt (version : Version) (source : List ℕ) (line : Span) (r : lent_record.Record) : Type 0 where
  pub read : record_in version (fields_in (slice_range source line.from line.to)) ≡ Ok (record_of r)
  pub lent : IsLentRecord source line r

-- The line is a reading of this kind, with these stamps and this value.
pub record IsReadingAt (version : Version) (source : List ℕ) (line : Span) (kind : Kind) (start end value : ℤ) : Type 0 where
  pub reading : model.Reading
  pub read : record_in version (fields_in (slice_range source line.from line.to)) ≡ Ok (model.Reads reading)
  pub kind_is : kind ≡ reading.kind
  pub start_is : start ≡ reading.start
  pub end_is : end ≡ reading.end
  pub value_is : value ≡ reading.value

-- The line lies in the source, its fields stand at the first of the spans, and it is a reading of these numbers.
pub record IsReadingOn (version : Version) (source : List ℕ) (spans : List Span) (n : Numbers) (line : Span) : Type 0 where
  pub ordered : line.from ≤ line.to
  pub within : line.to ≤ length source
  pub are : take (reading_fields version) spans ≡ spans_at source line
  pub numbers : IsReadingAt version source line n.kind n.start n.end n.value
