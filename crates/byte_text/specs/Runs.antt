-- Bytes that are looked at many at once: how many come before the first that passes a test.
use Rattle.std.specs.Prelude.{◌≡◌, ℕ, ◌<◌, ◌≤◌, Bool, true, false, ◌==◌, if◌then◌else◌, List, slice_index}
use Rattle.std.specs.Int.{w64, trailing_zeros}

-- Of so many bytes from the front, this many come before the first that passes the test.
pub record IsRun (test : ℕ → Bool) (t : List ℕ) (many run : ℕ) : Type 0 where
  pub within : run ≤ many
  pub before : (k : ℕ) → k < run → test (slice_index t k) ≡ false
  pub here : run < many → test (slice_index t run) ≡ true

-- the place of the lowest bit that is set, or how many were tested, where none is
abbrev pub lowest_set : ℕ → ℕ → ℕ
lowest_set mask many = if mask == 0 then many else trailing_zeros w64 mask
