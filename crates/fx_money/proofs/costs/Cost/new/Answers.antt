use Rattle.std.proofs.Common.{rules}
use Rattle.fx_money.proofs.costs.Cost.new.Goals as goal

pub returns-else-unsigned_abs-lt-COST_LIMIT-clause-within : goal.returns-else-unsigned_abs-lt-COST_LIMIT-clause-within
returns-else-unsigned_abs-lt-COST_LIMIT-clause-within c = search rules
