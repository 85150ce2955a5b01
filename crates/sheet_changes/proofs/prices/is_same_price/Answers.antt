use Rattle.std.proofs.Common.{rules}
use Rattle.sheet_changes.proofs.prices.is_same_price.Goals as goal

pub returns-then-eq-8 : goal.returns-then-eq-8
returns-then-eq-8 c = search rules
