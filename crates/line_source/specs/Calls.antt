-- What a call says of itself, whatever it reads for: how much was read, why it stopped, and which calls of the source failed.
use Rattle.std.specs.Prelude.{◌≡◌, ℕ, ◌+◌, ◌<◌, ◌≤◌, Result, IfOk, IfErr}
use Rattle.metering_model.specs.Limits.{most_transcript_bytes}
use Rattle.counted_io.specs.Counts.{count_after}
use Rattle.line_source.specs.declared.faults.SourceFault.{SourceFault}
use Rattle.line_source.specs.declared.faults.SourceFault.TheVariants as fault
use Rattle.line_source.specs.Faults.{tells_of_source}

-- where it is too long, more was read than one may have
abbrev pub IsOfReading : SourceFault → ℕ → Type 0
IsOfReading fault.TooLong read = most_transcript_bytes < read
IsOfReading fault.Read read = Unit {0}
IsOfReading fault.OutOfMemory read = Unit {0}

-- A call read ahead: so much was read since the last mark, by it and by those before it.
pub record ReadsWithin {A : Type 0} (result : Result A SourceFault) (read failed failed' : ℕ) : Type 0 where
  -- it answers only while that is not too much
  pub within : IfOk result (λ answer. read ≤ most_transcript_bytes)
  -- at most a byte too many is read
  pub most : read ≤ most_transcript_bytes + 1
  -- `TooLong` comes of no less
  pub reading : IfErr result (λ told. IsOfReading told read)
  -- `Read` comes of one failed call of the source, and no other call of it fails
  pub count : failed' ≡ count_after (tells_of_source result) failed
