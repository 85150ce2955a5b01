-- What a device of the tests does at a call of it.
use Rattle.std.specs.Prelude.{◌≡◌, ℕ, ◌==◌, nat_le, min, Bool, false, if◌then◌else◌, List, ◌++◌, length, take, drop, Option, Some, None}
use Rattle.counted_io.specs.Counts.{next_count}
use Rattle.counted_io.specs.declared.devices.FakeReader.{FakeReader}
use Rattle.counted_io.specs.declared.devices.FakeWriter.{FakeWriter}

-- the call of this number is the one that is meant
abbrev pub is_call : Option ℕ → ℕ → Bool
is_call None number = false
is_call (Some call) number = call == number

-- the call of this number, or an earlier one, is the one that is meant
abbrev pub is_since : Option ℕ → ℕ → Bool
is_since None number = false
is_since (Some call) number = nat_le call number

-- how many of so many bytes go over at a call
abbrev pub carried : Bool → ℕ → ℕ
carried byte_by_byte count = if byte_by_byte then min 1 count else count

-- how many of so many bytes go over at a call that may carry none
abbrev pub carried_unless : Bool → Bool → ℕ → ℕ
carried_unless idle byte_by_byte count = if idle then 0 else carried byte_by_byte count

-- The bytes that a reader will give: known where it is not told to give nothing before its end.
abbrev pub known_unless_pausing : Option ℕ → List ℕ → Option (List ℕ)
known_unless_pausing None bytes = Some bytes
known_unless_pausing (Some call) bytes = None

-- A writer was called once more: it counts the call, and its settings stay.
pub record IsWriterCalled (old new : FakeWriter) : Type 0 where
  pub calls : new.calls ≡ next_count old.calls
  pub told_failing : new.failing ≡ old.failing
  pub told_full : new.full_from ≡ old.full_from
  pub told_bytes : new.byte_by_byte ≡ old.byte_by_byte

-- A reader was called once more: it counts the call, and its settings stay.
pub record IsReaderCalled (old new : FakeReader) : Type 0 where
  pub calls : new.calls ≡ next_count old.calls
  pub told_failing : new.failing ≡ old.failing
  pub told_pausing : new.pausing ≡ old.pausing
  pub told_bytes : new.byte_by_byte ≡ old.byte_by_byte

-- A call gives as many bytes as fit, one or none, as set, from the beginning of what is left: the room has them in front.
pub record GivesInto (old new : FakeReader) (room filled : List ℕ) (many : ℕ) : Type 0 where
  pub count : many ≡ carried_unless (is_call old.pausing new.calls) old.byte_by_byte (min (length old.rest.now) (length room))
  pub given : filled ≡ take many old.rest.now ++ drop many room
  pub rest : new.rest.now ≡ drop many old.rest.now
