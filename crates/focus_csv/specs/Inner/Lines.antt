-- A line of CSV.
use Rattle.std.specs.Prelude.{ℕ, List, [], ◌∷◌, ◌++◌, map}
use Rattle.std.specs.List.{join_with_byte}
use Rattle.metering_model.specs.File.{quoted}

-- a line of these texts
abbrev pub line_of : List (List ℕ) → List ℕ
line_of fields = join_with_byte 44 (map quoted fields) ++ 10 ∷ []
