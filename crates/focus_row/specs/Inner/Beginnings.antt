-- Rows to which others were put.
use Rattle.std.specs.Prelude.{◌≡◌, List, [], ◌++◌, map, Option}
use Rattle.std.specs.List.{cons_option}
use Rattle.metering_model.specs.Sheet.{Sheet}
use Rattle.metering_model.specs.Row.{Row}
use Rattle.charge_row.specs.FocusRows.{model_row}
use Rattle.charge_row.specs.declared.columns.FocusRow.{FocusRow}
use Rattle.focus_row.specs.Inner.Near.{AreNamed}

-- rows are others, and what stands behind them
abbrev pub BeginsWith : List FocusRow → List FocusRow → Type 0
BeginsWith rows begun = (more : List FocusRow) × (rows ≡ begun ++ more)

-- Behind rows stands that of a charge, if there is one, and each has its region's name.
pub record IsPutBehind (sheet : Sheet) (charge : Option Row) (begun rows : List FocusRow) : Type 0 where
  pub row : map model_row rows ≡ map model_row begun ++ cons_option charge []
  pub named : AreNamed sheet rows
  pub begins : BeginsWith rows begun
