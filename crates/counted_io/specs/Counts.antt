-- The count of the calls that failed, and what a call does to it.
use Rattle.std.specs.Prelude.{◌≡◌, ℕ, ◌+◌, ◌-◌, ◌^◌, ◌<◌, ◌⊎◌, ◌==◌, if◌then◌else◌, Bool, true, false}

-- the greatest count, at which it stays
abbrev pub greatest : ℕ
greatest = 2 ^ 64 - 1

-- the count after one more failed call
abbrev pub next_count : ℕ → ℕ
next_count old = if old == greatest then old else old + 1

-- the count after a call that failed, or did not
abbrev pub count_after : Bool → ℕ → ℕ
count_after true old = next_count old
count_after false old = old

-- The count rose. At its greatest value it is said to rise at every call.
abbrev pub Rises : ℕ → ℕ → Type 0
Rises old new = (old < new) ⊎ ((old ≡ greatest) × (new ≡ greatest))
