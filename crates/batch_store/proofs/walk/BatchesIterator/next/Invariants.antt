use Rattle.std.proofs.Common.{◌≡◌, drop}
use Rattle.batch_store.specs.Inner.Shelves.{left_from}
use Rattle.batch_store.proofs.walk.BatchesIterator.next.Given as goal

abbrev pub invariant-loop-index : goal.invariant-loop-index
invariant-loop-index l = left_from l.from (drop l.index l.shelves) ≡ l.fn.self
