use Rattle.std.proofs.Common.{◌≡◌, ◌≤◌, ◌++◌, length, map}
use Rattle.batch_view.specs.Batches.{batch_of}
use Rattle.charge_row.specs.FocusRows.{model_row}
use Rattle.focus_row.specs.Inner.Beginnings.{BeginsWith}
use Rattle.focus_row.specs.Inner.Left.{rows_behind}
use Rattle.focus_row.specs.Inner.Near.{AreNamed}
use Rattle.focus_row.proofs.between.BetweenCuts.put_rows.Given as goal

-- Each row so far has its region's name, those so far with those of the records that are left are all of them, and before the
-- first record there is none more. There are no more than the limit, if there were no more at the start, and they begin with
-- those at the start.
abbrev pub invariant-loop-index : goal.invariant-loop-index
invariant-loop-index l =
    AreNamed l.self.sheet l.rows.items
    × (map model_row l.rows.items ++ rows_behind l.self l.agent l.seq l.index (batch_of l.batch)
    ≡ map model_row l.initial.rows.items ++ rows_behind l.self l.agent l.seq l.from (batch_of l.batch))
    × (l.index ≡ l.from → length l.rows.items ≡ length l.initial.rows.items)
    × (length l.initial.rows.items ≤ l.limit → length l.rows.items ≤ l.limit)
    × BeginsWith l.rows.items l.initial.rows.items
