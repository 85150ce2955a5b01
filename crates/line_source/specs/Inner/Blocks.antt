-- One read.
use Rattle.std.specs.Prelude.{◌≡◌, ℕ, ◌+◌, ◌≤◌, List, length, take, drop, Option, Result, IfErr}
use Rattle.std.specs.Io.{ReadsAtMost}
use Rattle.std.specs.Io.KnownBytes.{Consumes, ReadConsumes}
use Rattle.counted_io.specs.Counts.{count_after}
use Rattle.line_source.specs.declared.faults.SourceFault.{SourceFault}
use Rattle.line_source.specs.declared.faults.SourceFault.TheVariants as fault
use Rattle.line_source.specs.Faults.{tells_of_source}

-- One read into room.
pub record ReadsInto (result : Result ℕ SourceFault) (room : List ℕ) (left left' : Option (List ℕ)) (failed failed' : ℕ) : Type 0 where
  -- what came stands at the beginning of the room, and fits into it
  pub bound : ReadsAtMost result room
  -- the source lost it: at a fault nothing, and otherwise nothing only at its end
  pub consumed : ReadConsumes left left' result room
  -- there is no fault but `Read`
  pub fault : IfErr result (λ told. told ≡ fault.Read)
  -- which comes of one failed call of the source, and no other call of it fails
  pub count : failed' ≡ count_after (tells_of_source result) failed

-- So many bytes came, and stand behind the first ones.
pub record StandsBehind (at : ℕ) (old new : List ℕ) (came : ℕ) (left left' : Option (List ℕ)) : Type 0 where
  -- those stay
  pub prefix : take at new ≡ take at old
  -- nothing stands behind what came
  pub size : length new ≡ at + came
  -- there was room for it
  pub bound : length new ≤ length old
  -- it is what the source lost
  pub consumed : Consumes left left' (drop at new)
