use Rattle.std.proofs.Common.{rules}
use Rattle.rating.proofs.rated.rate_flat.Goals as goal

pub returns : goal.returns
returns c = search rules
