use Rattle.std.proofs.Common.{arith}
use Rattle.std.proofs.lemmas.Int.{ints}
use Rattle.fx_money.proofs.Signs.{value_in-within}
use Rattle.fx_money.proofs.values.Value.read.Goals as goal

pub invariant_of-result : goal.invariant_of-result
invariant_of-result c = omega (arith, ints, value_in-within c.args.text.now c.in-Ok.millionths c.in-Ok.ensures)
