use Rattle.node_kept.proofs.Limits.{is_kept}
use Rattle.node_kept.proofs.kept.Kept.into_parts.Goals as goal

pub returns-clause-kept : goal.returns-clause-kept
returns-clause-kept c = is_kept _ c.self.invariant
