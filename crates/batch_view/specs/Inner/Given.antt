-- Whether a batch has a reading of its agent, by the reading's sequence and index.
use Rattle.std.specs.Prelude.{◌≡◌, ℕ, Option, None, Some, ℤ}
use Rattle.std.specs.List.{slice_get}
use Rattle.metering_model.specs.Batch.{Batch, Reading, Reads}
use Rattle.metering_model.specs.declared.Kind.{Kind}
use Rattle.batch_view.specs.declared.entries.Found.{Found}

-- It has it, with this value.
pub record HasReading (b : Batch) (seq index : ℕ) (value : ℤ) : Type 0 where
  pub reading : Reading
  pub own : seq ≡ b.seq
  pub got : slice_get b.records index ≡ Some (Reads reading)
  pub value_is : value ≡ reading.value

abbrev pub LacksReading : Batch → ℕ → ℕ → Type 0
LacksReading b seq index = (r : Reading) → seq ≡ b.seq → slice_get b.records index ≡ Some (Reads r) → ⊥

-- the kind that was found of a reading
abbrev pub kind_found : Found → Option Kind
kind_found (Found.Reading kind start end) = Some kind
kind_found (Found.Amend seq index) = None
