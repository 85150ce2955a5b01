-- None are held.
use Rattle.std.proofs.Common.{rules}
use Rattle.focus_csv.proofs.lines.HeldLine.of.Goals as goal

pub invariant_of-result : goal.invariant_of-result
invariant_of-result c = search rules
