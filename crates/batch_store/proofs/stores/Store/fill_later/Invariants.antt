use Rattle.std.proofs.Common.{◌≤◌}
use Rattle.batch_store.proofs.AmendedValues.{AreGivenAbove}
use Rattle.batch_store.proofs.stores.Store.fill_later.Given as goal

-- the values have what the batches above the sequence give
abbrev pub invariant-loop-by : goal.invariant-loop-by
invariant-loop-by l = (l.seq ≤ l.left) × AreGivenAbove l.self.batches l.agent l.seq l.upto l.left l.values

abbrev pub decreases-loop-by : goal.decreases-loop-by
decreases-loop-by l = l.left
