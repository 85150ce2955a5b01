-- What a call says of itself, whatever it copies: how much was read, why it stopped, and which calls of a device failed.
use Rattle.std.specs.Prelude.{◌≡◌, ℕ, ◌+◌, ◌<◌, ◌≤◌, Result, IfOk, IfErr}
use Rattle.metering_model.specs.Limits.{most_transcript_bytes}
use Rattle.counted_io.specs.Counts.{count_after}
use Rattle.period_file.specs.declared.faults.FileFault.{FileFault}
use Rattle.period_file.specs.declared.faults.FileFault.TheVariants as fault
use Rattle.period_file.specs.Faults.{tells_of_reader, tells_of_writer}

-- a failed read, a failed write, out of memory, or too long an input: then more was read than one may have
abbrev pub IsOfCopying : FileFault → ℕ → Type 0
IsOfCopying fault.NoFile read = ⊥
IsOfCopying fault.Torn read = ⊥
IsOfCopying fault.TooLong read = most_transcript_bytes < read
IsOfCopying fault.Read read = Unit {0}
IsOfCopying fault.Write read = Unit {0}
IsOfCopying fault.OutOfMemory read = Unit {0}

-- A call read ahead, and wrote of what was there: so much was read in all, by it and by those before it.
pub record CopiesWithin {A : Type 0} (result : Result A FileFault) (read failed_reads failed_reads' failed_writes failed_writes' : ℕ) : Type 0 where
  -- it answers only while the input is not too long
  pub within : IfOk result (λ answer. read ≤ most_transcript_bytes)
  -- of one that is too long at most a byte too many is read
  pub most : read ≤ most_transcript_bytes + 1
  -- it fails only as reading does, or a write
  pub copying : IfErr result (λ told. IsOfCopying told read)
  -- `Read` comes of one failed call of the source, and no other call of it fails
  pub reads : failed_reads' ≡ count_after (tells_of_reader result) failed_reads
  -- and `Write` of one of the sink
  pub writes : failed_writes' ≡ count_after (tells_of_writer result) failed_writes
