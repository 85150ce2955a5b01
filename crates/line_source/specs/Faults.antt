-- Which answers tell of a failed call.
use Rattle.std.specs.Prelude.{Bool, true, false, Result, Ok, Err}
use Rattle.line_source.specs.declared.faults.SourceFault.{SourceFault}
use Rattle.line_source.specs.declared.faults.SourceFault.TheVariants.{TooLong, Read, OutOfMemory}

-- the answer tells of a failed call of the source
abbrev pub tells_of_source : {A : Type 0} → Result A SourceFault → Bool
tells_of_source (Ok x) = false
tells_of_source (Err TooLong) = false
tells_of_source (Err Read) = true
tells_of_source (Err OutOfMemory) = false
