use Rattle.std.proofs.Common.{rules}
use Rattle.fx_money.proofs.prices.Price.new.Goals as goal

pub invariant_of-result : goal.invariant_of-result
invariant_of-result c = search rules

pub returns-then-millionths-lt-PRICE_LIMIT-clause-beyond : goal.returns-then-millionths-lt-PRICE_LIMIT-clause-beyond
returns-then-millionths-lt-PRICE_LIMIT-clause-beyond c = search rules
