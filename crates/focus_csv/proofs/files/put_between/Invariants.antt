use Rattle.std.proofs.Common.{◌≡◌, ◌-◌, ◌++◌, take, drop}
use Rattle.focus_csv.specs.Rows.{batch_lines}
use Rattle.focus_csv.proofs.files.put_between.Given as goal

-- The lines of the batches so far stand behind the text.
abbrev pub invariant-loop-k : goal.invariant-loop-k
invariant-loop-k l = l.text.items ≡ l.fn.text.items ++ batch_lines (take (l.k - l.from) (drop l.from l.batches))
