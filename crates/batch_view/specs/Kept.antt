-- What a batch keeps beside its bytes, so that whoever has it need not read it again.
use Rattle.std.specs.Prelude.{◌≡◌, ℕ, ◌+◌, ◌&&◌, ◌||◌, ◌==◌, Bool, nat_lt, List, Option, Some, None, ℤ}
use Rattle.std.specs.List.{slice_get, filter_map, enumerate_from, last_or}
use Rattle.std.specs.Option.{option_and_then, option_map}
use Rattle.std.specs.List.Sorted.{IsPermutation, IsSortedBy}
use Rattle.metering_model.specs.Batch.{Batch, Record, Reads, Amends}
use Rattle.metering_model.specs.BatchReading.{lines_in}
use Rattle.metering_model.specs.declared.Kind.{Kind}
use Rattle.metering_model.specs.Holding.{placed, reading_of}
use Rattle.metering_model.specs.ValueAtSequence.{value_given_by}
use Rattle.record_view.specs.declared.fields.Span.{Span}
use Rattle.batch_view.specs.declared.owned.Amendment.{Amendment}
use Rattle.record_view.specs.Spans.{spans_at}
use Rattle.batch_view.specs.Batches.{line_spans}

-- The spans are those of the fields of the record at `index`, from left to right.
pub record AreFieldSpans (bytes : List ℕ) (index : ℕ) (spans : List Span) : Type 0 where
  pub line : Span
  pub is_line : slice_get (line_spans 0 (lines_in bytes).lines) (index + 1) ≡ Some line
  pub fields : spans ≡ spans_at bytes line

-- the amendment that a record is, with the record's own index
abbrev pub amendment_of : ℕ → Record → Option Amendment
amendment_of own (Reads r) = None
amendment_of own (Amends seq index value) = Some (record { seq = seq; index = index; value = value; own = own })

-- the amendments of a batch, in order
abbrev pub amendments_in : Batch → List Amendment
amendments_in b = filter_map (λ e. amendment_of e.0 e.1) (enumerate_from 0 b.records)

-- by the position that each names, then by its own index
abbrev pub comes_before : Amendment → Amendment → Bool
comes_before a b =
    nat_lt a.seq b.seq
    || ((a.seq == b.seq) && (nat_lt a.index b.index || ((a.index == b.index) && nat_lt a.own b.own)))

-- They are those of the batch, sorted.
pub record AreAmendmentsOf (b : Batch) (sorted : List Amendment) : Type 0 where
  pub all : IsPermutation (amendments_in b) sorted
  pub in_order : IsSortedBy comes_before sorted

-- the value that the batch's last record on a reading of its agent gives it
abbrev pub value_given_in : Batch → ℕ → ℕ → Option ℤ
value_given_in b seq index =
    last_or None (filter_map (value_given_by (record { agent = b.agent; seq = seq; index = index })) (placed b))

-- the kind of the reading at that index, if the record there is one
abbrev pub kind_in : Batch → ℕ → Option Kind
kind_in b index = option_map (λ r. r.kind) (option_and_then reading_of (slice_get b.records index))
