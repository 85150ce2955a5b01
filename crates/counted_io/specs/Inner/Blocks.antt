-- What comes of a source, a block at a time.
use Rattle.std.specs.Prelude.{◌≡◌, ℕ, ◌+◌, ◌<◌, ◌≤◌, List, take, drop, Option, Vec, vec_len}
use Rattle.std.specs.Io.KnownBytes.{Consumes, IsAtEnd}
use Rattle.std.specs.declared.alloc.Global.{Global}

-- So many bytes came, fewer than `most` that may come, and stand in front.
pub record LacksBytes (filled most : ℕ) (bytes : Vec ℕ Global) : Type 0 where
  pub within : filled ≤ vec_len bytes
  pub bounded : vec_len bytes ≤ most
  pub more : filled < most

-- So many bytes of the source came behind those in front, none only at its end.
pub record CameBehind (filled : ℕ) (bytes : Vec ℕ Global) (old new : Option (List ℕ)) (many : ℕ) : Type 0 where
  pub within : filled + many ≤ vec_len bytes
  pub consumed : Consumes old new (take many (drop filled bytes.items))
  pub end : many ≡ 0 → IsAtEnd new
