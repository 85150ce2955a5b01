use Rattle.std.proofs.Common.{rules}
use Rattle.journal_rules.proofs.targets.has_fit_target.Goals as goal

pub returns-in-None : goal.returns-in-None
returns-in-None c = search rules

pub returns-then-not-is_priced : goal.returns-then-not-is_priced
returns-then-not-is_priced c = search rules

pub returns-else-not-is_priced : goal.returns-else-not-is_priced
returns-else-not-is_priced c = search rules
