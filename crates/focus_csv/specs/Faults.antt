-- Which answers tell of a failed call of the sink.
use Rattle.std.specs.Prelude.{Bool, true, false, Result, Ok, Err}
use Rattle.focus_csv.specs.declared.CsvFault.{CsvFault}
use Rattle.focus_csv.specs.declared.CsvFault.TheVariants.{Write, OutOfMemory}

abbrev pub is_sink_fault : {A : Type 0} → Result A CsvFault → Bool
is_sink_fault (Ok x) = false
is_sink_fault (Err Write) = true
is_sink_fault (Err OutOfMemory) = false
