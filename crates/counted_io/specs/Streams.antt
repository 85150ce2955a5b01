-- What a call does to its reader and to its writer, beside what it writes.
use Rattle.std.specs.Prelude.{◌≡◌, ℕ, Bool, List, Option}
use Rattle.std.specs.Io.KnownBytes.{IsAtEnd}
use Rattle.counted_io.specs.Counts.{count_after}
use Rattle.counted_io.specs.Reading.{ConsumesAtMost}

-- At most so many bytes are read, and nothing is left to read where that is promised. An answer that tells of the reader or of the
-- writer comes of one failed call of it, and no other call fails.
pub record UsesStreams (most : ℕ) (promised : Type 0) (of_reader of_writer : Bool) (left left' : Option (List ℕ)) (read_fails read_fails' write_fails write_fails' : ℕ) : Type 0 where
  pub read : ConsumesAtMost most left left'
  pub end : promised → IsAtEnd left'
  pub reads : read_fails' ≡ count_after of_reader read_fails
  pub writes : write_fails' ≡ count_after of_writer write_fails
