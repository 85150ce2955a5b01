use Rattle.std.proofs.Common.{rules}
use Rattle.rating.proofs.charges.rate.Goals as goal

pub returns-after-commitment : goal.returns-after-commitment
returns-after-commitment c = search rules

pub returns-after-is_some : goal.returns-after-is_some
returns-after-is_some c = search rules
