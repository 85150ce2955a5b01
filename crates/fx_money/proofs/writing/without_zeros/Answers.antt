use Rattle.std.proofs.Common.{rules}
use Rattle.fx_money.proofs.Decimals.{cut_step}
use Rattle.fx_money.proofs.writing.without_zeros.Goals as goal

pub loop-left-preserved : goal.loop-left-preserved
loop-left-preserved c = cut_step _ _ _ _ c.loop-left-test.true c.loop-left.invariant

pub returns-clause-last : goal.returns-clause-last
returns-clause-last c = search rules
