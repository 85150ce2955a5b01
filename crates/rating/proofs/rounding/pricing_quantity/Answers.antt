use Rattle.std.proofs.Common.{rules}
use Rattle.rating.proofs.rounding.pricing_quantity.Goals as goal

pub returns : goal.returns
returns c = search rules
