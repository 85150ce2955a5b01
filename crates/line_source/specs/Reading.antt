-- Reading ahead, and what was taken of it.
use Rattle.std.specs.Prelude.{◌≡◌, ℕ, ◌+◌, ◌<◌, ◌≤◌, true, List, ◌++◌, length, Option}
use Rattle.std.specs.Io.KnownBytes.{Consumes, IsAtEnd}
use Rattle.metering_model.specs.Batch.{lacks}
use Rattle.metering_model.specs.Limits.{most_transcript_bytes}
use Rattle.metering_model.specs.Transcript.{line}
use Rattle.line_source.specs.declared.faults.SourceFault.{SourceFault}
use Rattle.line_source.specs.declared.faults.SourceFault.TheVariants as fault

-- bytes that were read and not yet taken, and how many were read since the last mark
pub record Ahead : Type 0 where
  pub bytes : List ℕ
  pub read : ℕ

-- No more came, or, at `TooLong`, more than may be read, which does only at the limit.
abbrev pub IsStopped : (now new : Ahead) → SourceFault → Type 0
IsStopped now new fault.TooLong = now.read ≡ most_transcript_bytes
IsStopped now new fault.Read = new ≡ now
IsStopped now new fault.OutOfMemory = new ≡ now

-- More bytes came, and of these and those before them some were taken: the rest is ahead.
pub record Takes (ahead rest : List ℕ) (read read' : ℕ) (left left' : Option (List ℕ)) (taken : List ℕ) : Type 0 where
  pub came : List ℕ
  pub consumed : Consumes left left' came
  pub joined : ahead ++ came ≡ taken ++ rest
  pub counted : read' ≡ read + length came

-- A part of a line was taken, and no line feed.
pub record TakesPart (ahead rest : List ℕ) (read read' : ℕ) (left left' : Option (List ℕ)) : Type 0 where
  pub part : List ℕ
  pub lacks_feed : lacks 10 part ≡ true
  pub takes : Takes ahead rest read read' left left' part

-- A line was taken, and its line feed.
pub record TakesLine (ahead rest : List ℕ) (read read' : ℕ) (left left' : Option (List ℕ)) : Type 0 where
  pub text : List ℕ
  pub lacks_feed : lacks 10 text ≡ true
  pub takes : Takes ahead rest read read' left left' (line text)

-- no byte is left that ends a line, neither ahead nor to be read
abbrev pub IsEnded : List ℕ → Option (List ℕ) → Type 0
IsEnded rest left = (lacks 10 rest ≡ true) × IsAtEnd left

-- More is read only while no more than so many bytes are ahead: so what is ahead then passes them by a block at most.
abbrev pub ReadsUpTo : (most : ℕ) (ahead ahead' : List ℕ) → Type 0
ReadsUpTo most ahead ahead' = length ahead < length ahead' → length ahead' ≤ most + 65_536

-- The last bytes that were read, a block at most, and perhaps by several reads: what was ahead before them did not suffice.
pub record IsLastBlock (is_short : List ℕ → Type 0) (ahead ahead' : List ℕ) : Type 0 where
  -- what came before them
  pub before : List ℕ
  -- and they themselves
  pub last : List ℕ
  pub joined : ahead' ≡ (ahead ++ before) ++ last
  pub block : length last ≤ 65_536
  pub short : is_short (ahead ++ before)

-- More is read only while what is ahead does not suffice: so if anything was read, what was ahead before the last bytes did not.
abbrev pub ReadsWhile : (is_short : List ℕ → Type 0) (ahead ahead' : List ℕ) → Type 0
ReadsWhile is_short ahead ahead' = length ahead < length ahead' → IsLastBlock is_short ahead ahead'

-- The byte beyond the most that may be read: what was ahead before it did not suffice.
pub record IsLastByte (is_short : List ℕ → Type 0) (ahead ahead' : List ℕ) : Type 0 where
  pub before : List ℕ
  pub last : List ℕ
  pub joined : ahead' ≡ (ahead ++ before) ++ last
  pub one : length last ≡ 1
  pub short : is_short (ahead ++ before)

-- Where a fault stops it, what is ahead does not suffice; at `TooLong` without the byte beyond the most.
abbrev pub StopsShort : (is_short : List ℕ → Type 0) (ahead ahead' : List ℕ) → SourceFault → Type 0
StopsShort is_short ahead ahead' fault.TooLong = IsLastByte is_short ahead ahead'
StopsShort is_short ahead ahead' fault.Read = is_short ahead'
StopsShort is_short ahead ahead' fault.OutOfMemory = is_short ahead'

-- Some of what was ahead and came was taken. More was read only while all of it together did not suffice.
pub record TakesWhile (is_short : List ℕ → Type 0) (ahead rest : List ℕ) (read read' : ℕ) (left left' : Option (List ℕ)) : Type 0 where
  pub taken : List ℕ
  pub takes : Takes ahead rest read read' left left' taken
  pub last : ReadsWhile is_short ahead (taken ++ rest)
