-- The bytes at which a reader of CSV would cut a field that stands as it is.
use Rattle.std.specs.Prelude.{ℕ, Bool, ◌||◌, ◌==◌}

-- a comma, a quotation mark, and the ends of lines
abbrev pub is_special : ℕ → Bool
is_special c = (c == 44) || (c == 34) || (c == 13) || (c == 10)
