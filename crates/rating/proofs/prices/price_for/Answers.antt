use Rattle.std.proofs.Common.{rules}
use Rattle.rating.proofs.prices.price_for.Goals as goal

pub returns : goal.returns
returns c = search rules
