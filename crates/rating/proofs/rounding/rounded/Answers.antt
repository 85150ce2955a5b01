use Rattle.std.proofs.Common.{rules}
use Rattle.rating.proofs.rounding.rounded.Goals as goal

pub returns-else-per-twice_rest-clause-rounded : goal.returns-else-per-twice_rest-clause-rounded
returns-else-per-twice_rest-clause-rounded c = search rules
