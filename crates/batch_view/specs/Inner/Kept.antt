-- What a batch keeps, and why nothing is kept.
use Rattle.std.specs.Prelude.{◌≡◌, ℕ, ◌+◌, List, length, drop, IsOk, Option, Some, None, ℤ, int_lt, Bool, true, All}
use Rattle.std.specs.List.{list_all}
use Rattle.metering_model.specs.BatchReading.{lines_in, records_in}
use Rattle.metering_model.specs.Front.{starts_before}
use Rattle.metering_model.specs.declared.Version.{Version}
use Rattle.metering_model.specs.declared.BatchFault.{BatchFault}
use Rattle.batch_view.specs.Batches.{batch_of}
use Rattle.batch_view.specs.Kept.{AreAmendmentsOf}
use Rattle.std.specs.List.Sorted.{IsNonDecreasingBy}
use Rattle.batch_view.specs.Inner.Amended.{rank, IsSmall}
use Rattle.batch_view.specs.Inner.Lines.{IsBehindLines, IsHeadOf}
use Rattle.batch_view.specs.Inner.Entries.{AreEntries, AreAllEntries}
use Rattle.batch_view.specs.declared.entries.Entry.{Entry}
use Rattle.batch_view.specs.declared.head.Head.{Head}
use Rattle.batch_view.specs.declared.owned.Amendment.{Amendment}
use Rattle.batch_view.specs.declared.keeping.Unkept.{Unkept}
use Rattle.batch_view.specs.declared.keeping.Unkept.TheVariants.{Fault, NoMemory}

-- what holds of the fault, where there is one
abbrev pub IfFault : Unkept → (BatchFault → Type 0) → Type 0
IfFault (Fault f) P = P f
IfFault NoMemory P = Unit {0}

-- So many records of that format were read, the first of them on line 2, and their entries are kept. The next line begins at
-- `at`.
pub record KeepsEntries (version : Version) (text : List ℕ) (count at : ℕ) (es : List Entry) : Type 0 where
  pub good : IsOk (records_in version 2 count (drop 1 (lines_in text).lines))
  pub behind : IsBehindLines text (count + 1) at
  pub each : AreEntries version text es
  pub many : length es ≡ count

-- The bytes are a batch of this head, and each record has its entry.
pub record KeepsBatch (bytes : List ℕ) (h : Head) (es : List Entry) : Type 0 where
  pub head : IsHeadOf bytes h
  pub entries : AreAllEntries h.version bytes es

-- whether the latest start, if there is one, is before that moment
abbrev pub is_before : ℤ → Option ℤ → Bool
is_before moment None = true
is_before moment (Some latest) = int_lt latest moment

-- The bytes are a batch, and the parts are what the model reads in them.
pub record KeepsParts (bytes : List ℕ) (h : Head) (es : List Entry) (sorted : List Amendment) (latest : Option ℤ) : Type 0 where
  pub batch : KeepsBatch bytes h es
  pub amendments : AreAmendmentsOf (batch_of bytes) sorted
  pub small : All IsSmall sorted
  pub rising : IsNonDecreasingBy rank sorted
  pub starts : (moment : ℤ) → list_all (starts_before moment) (batch_of bytes).records ≡ is_before moment latest
