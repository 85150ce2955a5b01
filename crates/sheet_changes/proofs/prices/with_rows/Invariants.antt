use Rattle.std.proofs.Common.{List, ◌++◌, take}
use Rattle.metering_model.specs.Sheet.{PriceRow}
use Rattle.sheet_changes.specs.Inner.Compared.{IsFirstDay}
use Rattle.sheet_changes.proofs.prices.with_rows.Given as goal

abbrev pub invariant-loop-row : goal.invariant-loop-row
invariant-loop-row l = (before : List PriceRow) → IsFirstDay l.old l.new before l.fn.first → IsFirstDay l.old l.new (before ++ take l.row-index l.rows) l.found
