-- What a row stands for, and its type, passed on, so that who writes a file needs no name of a crate below.
use Rattle.std.specs.Prelude.{ℕ, List}
use Rattle.std.specs.List.{flat_map}
use Rattle.metering_model.specs.Row.{Row}
pub use Rattle.charge_row.specs.FocusRows.{model_row}
pub use Rattle.charge_row.specs.declared.columns.FocusRow.{FocusRow}

-- the rows of batches, one batch's behind the other's
abbrev pub joined : List (List Row) → List Row
joined = flat_map (λ rows. rows)

-- The rows of a batch that are still to come, and how many records are.
pub record RowsLeft : Type 0 where
  pub rows : List Row
  pub records : ℕ
