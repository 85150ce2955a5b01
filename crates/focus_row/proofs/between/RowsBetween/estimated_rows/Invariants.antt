use Rattle.std.proofs.Common.{◌≤◌, ◌-◌, ◌*◌}
use Rattle.focus_row.proofs.between.RowsBetween.estimated_rows.Given as goal

-- A batch has at most a thousand records.
abbrev pub invariant-loop-k : goal.invariant-loop-k
invariant-loop-k l = l.count ≤ 1_000 * (l.k - l.from)
