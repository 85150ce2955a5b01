use Rattle.std.proofs.Common.{◌≡◌, ◌≤◌}
use Rattle.batch_store.specs.Stores.{position_of}
use Rattle.batch_store.specs.Inner.Values.{last_given}
use Rattle.batch_store.proofs.stores.Store.last_amended.Given as goal

abbrev pub invariant-loop-seq : goal.invariant-loop-seq
invariant-loop-seq l =
    (l.place.seq ≤ l.left) × (last_given l.self.batches (position_of l.place) l.upto ≡ last_given l.self.batches (position_of l.place) l.left)

abbrev pub decreases-loop-seq : goal.decreases-loop-seq
decreases-loop-seq l = l.left
