use Rattle.std.proofs.Common.{◌≡◌, List, ℤ, drop}
use Rattle.batch_view.specs.Batches.{batch_of}
use Rattle.fault_lines.specs.Ahead.{latest}
use Rattle.fault_lines.proofs.AheadWalks.{IsWalked}
use Rattle.fault_lines.proofs.ahead.put_batch.Given as goal

-- What is left to be told is of the records that are left.
abbrev pub invariant-loop-asked : goal.invariant-loop-asked
invariant-loop-asked l = record {
  can_next : (goal.iterator-loop-asked).can_next l.asked-iterator;
  is_finite : (goal.iterator-loop-asked).is_finite l.asked-iterator;
  bytes : l.asked-iterator.bytes ≡ l.batch;
  index : l.asked-iterator.index ≡ l.index;
  walked : (days : List ℤ) → l.fn.above ≡ latest days
      → IsWalked l.lines days l.fn.told.items l.told.items (batch_of l.batch).records (drop l.index (batch_of l.batch).records) l.index l.latest;
}
