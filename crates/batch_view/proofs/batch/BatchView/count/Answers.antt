use Rattle.batch_view.proofs.BatchLemmas.{head_limits}
use Rattle.batch_view.proofs.batch.BatchView.count.Goals as goal

pub returns-clause-range : goal.returns-clause-range
returns-clause-range c = (head_limits _ _ c.self.invariant.head).count
