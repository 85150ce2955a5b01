use Rattle.std.proofs.Common.{rules}
use Rattle.fx_money.proofs.reading.negative.Goals as goal

pub returns-in-Ok-eq0 : goal.returns-in-Ok-eq0
returns-in-Ok-eq0 c = search rules
