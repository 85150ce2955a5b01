-- What a fault of reading comes to, and which answers tell of a failed call.
use Rattle.std.specs.Prelude.{Bool, true, false, Result, Ok, Err}
use Rattle.line_source.specs.declared.faults.SourceFault.{SourceFault}
use Rattle.line_source.specs.declared.faults.SourceFault.TheVariants as source
use Rattle.period_file.specs.declared.faults.FileFault.{FileFault}
use Rattle.period_file.specs.declared.faults.FileFault.TheVariants.{NoFile, Torn, TooLong, Read, Write, OutOfMemory}

abbrev pub of_source : SourceFault → FileFault
of_source source.TooLong = TooLong
of_source source.Read = Read
of_source source.OutOfMemory = OutOfMemory

-- the answer tells of a failed call of the reader
abbrev pub tells_of_reader : {A : Type 0} → Result A FileFault → Bool
tells_of_reader (Ok x) = false
tells_of_reader (Err NoFile) = false
tells_of_reader (Err Torn) = false
tells_of_reader (Err TooLong) = false
tells_of_reader (Err Read) = true
tells_of_reader (Err Write) = false
tells_of_reader (Err OutOfMemory) = false

-- the answer tells of a failed call of the writer
abbrev pub tells_of_writer : {A : Type 0} → Result A FileFault → Bool
tells_of_writer (Ok x) = false
tells_of_writer (Err NoFile) = false
tells_of_writer (Err Torn) = false
tells_of_writer (Err TooLong) = false
tells_of_writer (Err Read) = false
tells_of_writer (Err Write) = true
tells_of_writer (Err OutOfMemory) = false
