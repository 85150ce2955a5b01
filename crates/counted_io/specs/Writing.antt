-- What writing does to a sink.
use Rattle.std.specs.Prelude.{ℕ, ◌<◌, ◌≤◌, ◌&&◌, ◌==◌, not, Bool, true, List, length, take, Option, Result, Ok, Err}
use Rattle.std.specs.Io.KnownBytes.{Appends}

-- a write failed: at an error, and where it took nothing of something
abbrev pub is_failed_write : {E : Type 0} → Result ℕ E → List ℕ → Bool
is_failed_write (Ok taken) bytes = taken == 0 && not (length bytes == 0)
is_failed_write (Err error) bytes = true

-- known contents grew by a prefix of the bytes, which is not all of them
abbrev pub AppendsPrefix : Option (List ℕ) → Option (List ℕ) → List ℕ → Type 0
AppendsPrefix old new bytes = (taken : ℕ) × (taken < length bytes) × Appends old new (take taken bytes)

-- known contents grew by a prefix of the bytes, or by all of them
abbrev pub AppendsSome : Option (List ℕ) → Option (List ℕ) → List ℕ → Type 0
AppendsSome old new bytes = (taken : ℕ) × (taken ≤ length bytes) × Appends old new (take taken bytes)
