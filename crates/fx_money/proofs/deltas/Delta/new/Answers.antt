use Rattle.std.proofs.Common.{rules}
use Rattle.fx_money.proofs.deltas.Delta.new.Goals as goal

pub returns-else-unsigned_abs-lt-DELTA_LIMIT-clause-within : goal.returns-else-unsigned_abs-lt-DELTA_LIMIT-clause-within
returns-else-unsigned_abs-lt-DELTA_LIMIT-clause-within c = search rules
