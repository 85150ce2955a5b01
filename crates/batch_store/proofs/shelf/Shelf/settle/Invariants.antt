use Rattle.std.proofs.Common.{◌≡◌}
use Rattle.batch_store.proofs.shelf.Shelf.settle.Given as goal

abbrev pub invariant-loop : goal.invariant-loop
invariant-loop l = l.self ≡ l.fn.self
