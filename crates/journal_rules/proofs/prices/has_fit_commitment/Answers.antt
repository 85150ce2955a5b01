-- A purchase fits by the SKU that buys the commitment.
use Rattle.std.proofs.Common.{rules}
use Rattle.journal_rules.proofs.prices.has_fit_commitment.Goals as goal

pub returns-in-Purchase : goal.returns-in-Purchase
returns-in-Purchase c = search rules
