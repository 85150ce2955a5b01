-- What a call says of itself: how much was read since the last mark, which calls of the source failed, and why it stopped.
use Rattle.std.specs.Prelude.{◌≡◌, ℕ, ◌+◌, ◌<◌, ◌≤◌, List, ◌++◌, length, Option, Some, None, Result, IfOk}
use Rattle.metering_model.specs.Limits.{most_transcript_bytes}
use Rattle.counted_io.specs.Counts.{count_after}
use Rattle.process_player.specs.declared.faults.ProcessFault.{ProcessFault}
use Rattle.process_player.specs.declared.faults.ProcessFault.TheVariants as fault
use Rattle.process_player.specs.Faults.{tells_of_reader, tells_of_writer}

-- it comes of reading on alone, and `TooLong` only where that holds
abbrev pub IsOfReading : (Long : Type 0) → ProcessFault → Type 0
IsOfReading Long fault.Read = Unit {0}
IsOfReading Long (fault.Section why) = ⊥
IsOfReading Long (fault.Log code line) = ⊥
IsOfReading Long fault.OtherLog = ⊥
IsOfReading Long fault.NoJournal = ⊥
IsOfReading Long fault.TooLong = Long
IsOfReading Long fault.Write = ⊥
IsOfReading Long fault.OutOfMemory = Unit {0}

-- the same, and where a read failed that holds of what is ahead
pub record StopsReading (Long Short : Type 0) (why : ProcessFault) : Type 0 where
  pub reading : IsOfReading Long why
  pub short : why ≡ fault.Read → Short

-- or of an answer
abbrev pub IsOfServing : (Long : Type 0) → ProcessFault → Type 0
IsOfServing Long fault.Read = Unit {0}
IsOfServing Long (fault.Section why) = ⊥
IsOfServing Long (fault.Log code line) = ⊥
IsOfServing Long fault.OtherLog = ⊥
IsOfServing Long fault.NoJournal = ⊥
IsOfServing Long fault.TooLong = Long
IsOfServing Long fault.Write = Unit {0}
IsOfServing Long fault.OutOfMemory = Unit {0}

-- what is ahead and still to come is too long
abbrev pub IsLong : (ahead : List ℕ) → (left : Option (List ℕ)) → Type 0
IsLong ahead None = Unit {0}
IsLong ahead (Some bytes) = most_transcript_bytes < length (ahead ++ bytes)

-- at least so many bytes of what was ahead and still to come were taken
abbrev pub AreTaken : ℕ → (ahead rest : List ℕ) → (left left' : Option (List ℕ)) → Type 0
AreTaken n ahead rest None left' = Unit {0}
AreTaken n ahead rest (Some bytes) None = ⊥
AreTaken n ahead rest (Some bytes) (Some more) = n + length (rest ++ more) ≤ length (ahead ++ bytes)

pub record Reads {A : Type 0} (result : Result A ProcessFault) (read failed failed' : ℕ) : Type 0 where
  -- it answers only while that is not too much
  pub within : IfOk result (λ answer. read ≤ most_transcript_bytes)
  -- `Read` comes of one failed call of the source, and no other call of it fails
  pub count : failed' ≡ count_after (tells_of_reader result) failed

-- The same of a call that writes too.
pub record ReadsAndWrites {A : Type 0} (result : Result A ProcessFault) (read read_fails read_fails' write_fails write_fails' : ℕ) : Type 0 where
  pub within : IfOk result (λ answer. read ≤ most_transcript_bytes)
  pub reads : read_fails' ≡ count_after (tells_of_reader result) read_fails
  pub writes : write_fails' ≡ count_after (tells_of_writer result) write_fails
