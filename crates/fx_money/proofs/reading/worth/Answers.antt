use Rattle.fx_money.proofs.Digits.{sum_step, sum_ends}
use Rattle.fx_money.proofs.reading.worth.Goals as goal

pub loop-digit-preserved : goal.loop-digit-preserved
loop-digit-preserved c = rw c.from.ensures (sum_step _ _ _ _ c.loop-digit-test.true c.loop-digit.invariant)

pub returns-clause-value : goal.returns-clause-value
returns-clause-value c = sum_ends _ _ _ _ c.loop-digit-test.false c.loop-digit.invariant
