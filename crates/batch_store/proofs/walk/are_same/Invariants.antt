use Rattle.std.proofs.Common.{◌≡◌, ◌↔◌, length}
use Rattle.batch_store.proofs.walk.are_same.Given as goal

-- The batches so far are the same.
abbrev pub invariant-loop-batch : goal.invariant-loop-batch
invariant-loop-batch l = (l.one ≡ l.two) ↔ (l.fn.one ≡ l.fn.two)

abbrev pub decreases-loop-batch : goal.decreases-loop-batch
decreases-loop-batch l = length l.one
