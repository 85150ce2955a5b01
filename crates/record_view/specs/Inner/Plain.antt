-- Where a scan of a plain text stops.
use Rattle.std.specs.Prelude.{ℕ, Bool, ◌||◌, ◌==◌, nat_le, nat_lt}

-- whether a scan for that byte stops here: at the byte, and at what is not plain
abbrev pub stops_at : ℕ → ℕ → Bool
stops_at byte c = nat_lt c 32 || nat_le 124 c || c == byte
