use Rattle.std.proofs.Common.{rules}
use Rattle.fx_money.proofs.prices.Price.read.Goals as goal

pub invariant_of-result : goal.invariant_of-result
invariant_of-result c = search rules

pub returns-in-Ok : goal.returns-in-Ok
returns-in-Ok c = search rules
