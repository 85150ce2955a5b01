use Rattle.std.proofs.Common.{◌≡◌, ◌++◌, map, take}
use Rattle.sheet_changes.specs.FieldChanges.{price_day}
use Rattle.sheet_changes.specs.Inner.Listed.{day_of_pair}
use Rattle.sheet_changes.proofs.orders.add_days.Given as goal

abbrev pub invariant-loop-row : goal.invariant-loop-row
invariant-loop-row l = map day_of_pair l.days.items ≡ map day_of_pair l.fn.days.items ++ map price_day (take l.row-index l.rows)
