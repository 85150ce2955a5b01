-- What reading up to a limit answers, and what it takes.
use Rattle.std.specs.Prelude.{◌≡◌, ℕ, ◌<◌, ◌≤◌, ⊤, Bool, true, false, List, length, Option, Result, Ok, Err}
use Rattle.std.specs.Io.KnownBytes.{Consumes, IsAtEnd}
use Rattle.counted_io.specs.declared.reading.Input.{Input}
use Rattle.counted_io.specs.declared.reading.Input.TheVariants.{Whole, TooLong}
use Rattle.counted_io.specs.declared.reading.ReadFault.{ReadFault}
use Rattle.counted_io.specs.declared.reading.ReadFault.TheVariants.{Failed, OutOfMemory}

-- the answer where these bytes remained
abbrev pub IsAnswer : ℕ → List ℕ → Input → Type 0
IsAnswer limit bytes (Whole read) = (read.items ≡ bytes) × (length bytes ≤ limit)
IsAnswer limit bytes TooLong = limit < length bytes

-- a whole input is within the limit, and nothing known remains behind it
abbrev pub EndsWithin : ℕ → Option (List ℕ) → Input → Type 0
EndsWithin limit remaining (Whole read) = (length read.items ≤ limit) × IsAtEnd remaining
EndsWithin limit remaining TooLong = ⊤

-- known bytes lose a prefix of at most so many
abbrev pub ConsumesAtMost : ℕ → Option (List ℕ) → Option (List ℕ) → Type 0
ConsumesAtMost most old new = (bytes : List ℕ) × Consumes old new bytes × (length bytes ≤ most)

-- reading ended because a call of the source failed
abbrev pub is_device_fault : {T : Type 0} → Result T ReadFault → Bool
is_device_fault (Ok value) = false
is_device_fault (Err Failed) = true
is_device_fault (Err OutOfMemory) = false
