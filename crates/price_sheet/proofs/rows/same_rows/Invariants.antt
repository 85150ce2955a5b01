use Rattle.std.proofs.Common.{◌≡◌, take}
use Rattle.price_sheet.proofs.rows.same_rows.Given as goal

abbrev pub invariant-loop-i : goal.invariant-loop-i
invariant-loop-i g l = take l.i l.left ≡ take l.i l.right
