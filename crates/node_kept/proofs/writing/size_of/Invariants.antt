use Rattle.std.proofs.Common.{◌≡◌, ◌+◌, ◌*◌, ◌≤◌, length}
use Rattle.node_kept.proofs.writing.size_of.Given as goal

-- What is counted, and what is left, are all; a batch has at most 65,536 bytes.
abbrev pub invariant-loop-batch : goal.invariant-loop-batch
invariant-loop-batch l = (l.count + length l.batches ≡ length l.fn.batches) × (l.length ≤ 65_536 * l.count)

abbrev pub decreases-loop-batch : goal.decreases-loop-batch
decreases-loop-batch l = length l.batches
