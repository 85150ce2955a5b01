-- So few digits make a number far below 2^64.
use Rattle.std.proofs.Common.{arith}
use Rattle.fx_money.proofs.Usual.{below_power}
use Rattle.fx_money.proofs.reading.leading.Goals as goal

pub overflow_mul-number : goal.overflow_mul-number
overflow_mul-number c = omega (arith, below_power c.loop-count.number c.loop-count.count 11 c.loop-count.invariant.small (omega arith))

pub overflow_add-number : goal.overflow_add-number
overflow_add-number c = omega (arith, below_power c.loop-count.number c.loop-count.count 11 c.loop-count.invariant.small (omega arith))
