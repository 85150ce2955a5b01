-- What a row stands for, and its type, passed on, so that who writes a file needs no name of a crate below.
use Rattle.std.specs.Prelude.{ℕ, List}
use Rattle.std.specs.List.{flat_map}
use Rattle.metering_model.specs.Row.{Row}
use Rattle.metering_model.specs.File.{row_text}
pub use Rattle.focus_row.specs.Rows.{joined}

-- the lines of batches' rows, in order
abbrev pub batch_lines : List (List Row) → List ℕ
batch_lines batches = flat_map (flat_map row_text) batches
