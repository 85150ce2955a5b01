use Rattle.std.proofs.Common.{◌≡◌, [], replicate}
use Rattle.batch_store.proofs.stores.Store.new.Given as goal

abbrev pub invariant-loop : goal.invariant-loop
invariant-loop l = l.shelves.items ≡ replicate l.counter []
