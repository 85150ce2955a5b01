-- Rows whose region may be near that of another.
use Rattle.std.specs.Prelude.{List, All}
use Rattle.std.specs.Option.{option_copied}
use Rattle.metering_model.specs.Sheet.{Sheet}
use Rattle.charge_row.specs.Regions.{IsNamed}
use Rattle.charge_row.specs.declared.columns.FocusRow.{FocusRow}

-- The name of the row's region is the one that the sheet gives it.
abbrev pub HasItsName : Sheet → FocusRow → Type 0
HasItsName sheet row = IsNamed sheet (option_copied row.region_id) (option_copied row.region_name)

-- So it is of each row.
abbrev pub AreNamed : Sheet → List FocusRow → Type 0
AreNamed sheet rows = All (HasItsName sheet) rows
