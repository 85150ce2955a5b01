use Rattle.fx_money.specs.Inner.Cuts.{IsCutTo}
use Rattle.fx_money.proofs.writing.without_zeros.Given as goal

abbrev pub invariant-loop-left : goal.invariant-loop-left
invariant-loop-left l = IsCutTo l.places l.number l.kept l.left

abbrev pub decreases-loop-left : goal.decreases-loop-left
decreases-loop-left l = l.left
