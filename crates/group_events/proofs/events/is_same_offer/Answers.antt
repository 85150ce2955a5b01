-- Whether two offers are the same.
use Rattle.std.proofs.Common.{rules}
use Rattle.group_events.proofs.events.is_same_offer.Goals as goal

pub returns-in-Bad-Bad : goal.returns-in-Bad-Bad
returns-in-Bad-Bad c = search rules
