use Rattle.std.proofs.Common.{◌≡◌, ℕ, true, ◌≤◌, ◌<◌}
use Rattle.std.specs.Option.{is_some}
use Rattle.batch_store.specs.Inner.Shelves.{at_seq}
use Rattle.batch_store.proofs.shelf.Shelf.first_absent.Given as goal

abbrev pub invariant-loop-seq : goal.invariant-loop-seq
invariant-loop-seq l = (seq : ℕ) → 1 ≤ seq → seq < l.seq-counter → is_some (at_seq l.self seq) ≡ true
