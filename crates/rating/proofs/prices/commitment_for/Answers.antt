use Rattle.std.proofs.Common.{rules}
use Rattle.rating.proofs.prices.commitment_for.Goals as goal

pub returns : goal.returns
returns c = search rules
