-- Which answers tell of a failed call.
use Rattle.std.specs.Prelude.{◌≡◌, ℕ, Bool, true, false, Result, Ok, Err}
use Rattle.counted_io.specs.Counts.{count_after}
use Rattle.process_player.specs.declared.faults.ProcessFault.{ProcessFault}
use Rattle.process_player.specs.declared.faults.ProcessFault.TheVariants.{Read, Section, Log, OtherLog, NoJournal, TooLong, Write, OutOfMemory}

-- the answer tells of a failed call of the reader
abbrev pub tells_of_reader : {A : Type 0} → Result A ProcessFault → Bool
tells_of_reader (Ok x) = false
tells_of_reader (Err Read) = true
tells_of_reader (Err (Section fault)) = false
tells_of_reader (Err (Log code line)) = false
tells_of_reader (Err OtherLog) = false
tells_of_reader (Err NoJournal) = false
tells_of_reader (Err TooLong) = false
tells_of_reader (Err Write) = false
tells_of_reader (Err OutOfMemory) = false

-- the answer tells of a failed call of the writer
abbrev pub tells_of_writer : {A : Type 0} → Result A ProcessFault → Bool
tells_of_writer (Ok x) = false
tells_of_writer (Err Read) = false
tells_of_writer (Err (Section fault)) = false
tells_of_writer (Err (Log code line)) = false
tells_of_writer (Err OtherLog) = false
tells_of_writer (Err NoJournal) = false
tells_of_writer (Err TooLong) = false
tells_of_writer (Err Write) = true
tells_of_writer (Err OutOfMemory) = false

-- An answer that tells of the reader or of the writer comes of one failed call of it, and no other call fails.
pub record FailsAsTold {A : Type 0} (answer : Result A ProcessFault) (read_fails read_fails' write_fails write_fails' : ℕ) : Type 0 where
  pub reads : read_fails' ≡ count_after (tells_of_reader answer) read_fails
  pub writes : write_fails' ≡ count_after (tells_of_writer answer) write_fails

-- what is read of the input is refused
abbrev pub IsRefusal : ProcessFault → Type 0
IsRefusal Read = ⊥
IsRefusal (Section fault) = Unit {0}
IsRefusal (Log code line) = Unit {0}
IsRefusal OtherLog = Unit {0}
IsRefusal NoJournal = Unit {0}
IsRefusal TooLong = ⊥
IsRefusal Write = ⊥
IsRefusal OutOfMemory = ⊥
