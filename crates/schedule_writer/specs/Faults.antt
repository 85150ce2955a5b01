-- What the faults of the calls below come to, which answers tell of a failed call, and what a fault says of the input.
use Rattle.std.specs.Prelude.{◌≡◌, ◌⊎◌, ℕ, List, Bool, true, false, Option, Result, Ok, Err, IfSome, Vec}
use Rattle.std.specs.declared.alloc.Global.{Global}
use Rattle.schedule_writer.specs.declared.faults.WriteFault.{WriteFault}
use Rattle.schedule_writer.specs.Refusals.{IsRefused, IsTaken}
use Rattle.schedule_writer.specs.declared.faults.WriteFault.TheVariants.{Read, Refused, TooLong, NotClosed, Write, OutOfMemory}

-- the answer tells of a failed call of the reader
abbrev pub tells_of_reader : {A : Type 0} → Result A WriteFault → Bool
tells_of_reader (Ok x) = false
tells_of_reader (Err Read) = true
tells_of_reader (Err (Refused told)) = false
tells_of_reader (Err TooLong) = false
tells_of_reader (Err NotClosed) = false
tells_of_reader (Err Write) = false
tells_of_reader (Err OutOfMemory) = false

-- the answer tells of a failed call of the writer
abbrev pub tells_of_writer : {A : Type 0} → Result A WriteFault → Bool
tells_of_writer (Ok x) = false
tells_of_writer (Err Read) = false
tells_of_writer (Err (Refused told)) = false
tells_of_writer (Err TooLong) = false
tells_of_writer (Err NotClosed) = false
tells_of_writer (Err Write) = true
tells_of_writer (Err OutOfMemory) = false

-- Of a refused section, and else of the first batch that is not journaled, is told what `check` tells. `TooLong` and `NotClosed` stand
-- for no section and no batch that is refused.
pub record TellsFaults {A : Type 0} (answer : Result A WriteFault) (known : Option (List ℕ)) : Type 0 where
  pub refused : (told : Vec ℕ Global) → answer ≡ Err (Refused told) → IfSome known (λ input. IsRefused input told.items)
  pub taken : (answer ≡ Err TooLong) ⊎ (answer ≡ Err NotClosed) → IfSome known IsTaken
