use Rattle.std.proofs.Common.{◌≡◌, map, take}
use Rattle.charge_row.specs.FocusRows.{model_row}
use Rattle.focus_row.specs.Rows.{joined}
use Rattle.focus_row.proofs.between.RowsBetween.all.Given as goal

-- The rows of the batches so far.
abbrev pub invariant-loop-k : goal.invariant-loop-k
invariant-loop-k l = map model_row l.all.items ≡ joined (take l.k l.self)
