use Rattle.sheet_laws.proofs.KeptRules.{rules_kept}
use Rattle.sheet_laws.proofs.laws.rules_are_kept.Goals as goal

pub returns : goal.returns
returns c = rules_kept
