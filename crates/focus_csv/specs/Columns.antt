-- The columns of a file.
use Rattle.std.specs.Prelude.{ℕ, List, map}
use Rattle.metering_model.specs.File.{columns}

-- the names of the columns, in order
abbrev pub column_names : List (List ℕ)
column_names = map (λ c. c.name) columns
