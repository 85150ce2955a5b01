-- The end of a period is the start of the next.
use Rattle.std.proofs.Common.{rules}
use Rattle.period_cut.proofs.periods.Period.end.Goals as goal

pub returns : goal.returns
returns c = search rules
