use Rattle.std.proofs.Common.{arith}
use Rattle.fx_money.proofs.Digits.{read_so_far, read_step}
use Rattle.fx_money.proofs.reading.number.Goals as goal

pub returns-then-number-ge-WHOLE_LIMIT : goal.returns-then-number-ge-WHOLE_LIMIT
returns-then-number-ge-WHOLE_LIMIT c =
    omega (arith, read_so_far _ _ _ (read_step _ _ _ c.loop-digit-test.true c.loop-digit.invariant.1))
