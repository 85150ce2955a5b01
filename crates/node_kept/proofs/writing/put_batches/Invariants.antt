use Rattle.std.proofs.Common.{◌≡◌, ◌++◌, flat_map, length}
use Rattle.metering_model.specs.Batch.{batch_text}
use Rattle.node_kept.proofs.writing.put_batches.Given as goal

-- What is put, and what is left, are all.
abbrev pub invariant-loop-batch : goal.invariant-loop-batch
invariant-loop-batch l = l.text.items ++ flat_map batch_text l.batches ≡ l.fn.text.items ++ flat_map batch_text l.fn.batches

abbrev pub decreases-loop-batch : goal.decreases-loop-batch
decreases-loop-batch l = length l.batches
