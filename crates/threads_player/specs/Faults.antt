-- What the fault of a run comes to, and which answers tell of a failed call of the writer.
use Rattle.std.specs.Prelude.{Bool, true, false, Result, Ok, Err}
use Rattle.node_threads.specs.declared.runs.RunFault.{RunFault}
use Rattle.node_threads.specs.declared.runs.RunFault.TheVariants as run
use Rattle.threads_player.specs.declared.faults.ThreadsFault.{ThreadsFault}
use Rattle.threads_player.specs.declared.faults.ThreadsFault.TheVariants.{OutOfMemory, Mismatch, Write, Refused}

abbrev pub of_run : RunFault → ThreadsFault
of_run run.OutOfMemory = OutOfMemory
of_run run.Mismatch = Mismatch

abbrev pub tells_of_writer : {A : Type 0} → Result A ThreadsFault → Bool
tells_of_writer (Ok x) = false
tells_of_writer (Err OutOfMemory) = false
tells_of_writer (Err Mismatch) = false
tells_of_writer (Err Write) = true
tells_of_writer (Err Refused) = false
