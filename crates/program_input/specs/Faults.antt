-- What the faults of the calls below come to, and which answers tell of a failed call.
use Rattle.std.specs.Prelude.{◌≢◌, Bool, true, false, Result, Ok, Err}
use Rattle.metering_model.specs.declared.Refusal.{Refusal}
use Rattle.counted_io.specs.declared.reading.ReadFault.{ReadFault}
use Rattle.counted_io.specs.declared.reading.ReadFault.TheVariants as reading
use Rattle.input_sections.specs.declared.faults.ScheduleFault.{ScheduleFault}
use Rattle.input_sections.specs.declared.faults.ScheduleFault.TheVariants as sections
use Rattle.program_input.specs.declared.faults.PlayFault.{PlayFault}
use Rattle.program_input.specs.declared.faults.PlayFault.TheVariants.{Read, Schedule, Write, OutOfMemory, Refused}

-- a refused section is told as it is
abbrev pub of_sections : ScheduleFault → PlayFault
of_sections (sections.Refused code line) = Schedule (sections.Refused code line)
of_sections sections.OutOfMemory = OutOfMemory

abbrev pub of_reader : ReadFault → PlayFault
of_reader reading.Failed = Read
of_reader reading.OutOfMemory = OutOfMemory

-- the answer tells of a failed call of the reader
abbrev pub tells_of_reader : {A : Type 0} → Result A PlayFault → Bool
tells_of_reader (Ok x) = false
tells_of_reader (Err Read) = true
tells_of_reader (Err (Schedule fault)) = false
tells_of_reader (Err Write) = false
tells_of_reader (Err OutOfMemory) = false
tells_of_reader (Err (Refused refusal)) = false

-- the answer tells of a failed call of the writer
abbrev pub tells_of_writer : {A : Type 0} → Result A PlayFault → Bool
tells_of_writer (Ok x) = false
tells_of_writer (Err Read) = false
tells_of_writer (Err (Schedule fault)) = false
tells_of_writer (Err Write) = true
tells_of_writer (Err OutOfMemory) = false
tells_of_writer (Err (Refused refusal)) = false

-- The answer of a call that reads alone: it tells of no failed call of a writer, and refuses no batch.
pub record EndsInReading {A : Type 0} (answer : Result A PlayFault) : Type 0 where
  pub no_write : answer ≢ Err Write
  pub no_refusal : (refusal : Refusal) → answer ≢ Err (Refused refusal)

-- The answer of a call that refuses nothing: it tells of no section, and of no batch.
pub record RefusesNothing {A : Type 0} (answer : Result A PlayFault) : Type 0 where
  pub no_section : (fault : ScheduleFault) → answer ≢ Err (Schedule fault)
  pub no_refusal : (refusal : Refusal) → answer ≢ Err (Refused refusal)
