use Rattle.batch_store.proofs.ShelvesLemmas.{AreShared}
use Rattle.batch_store.proofs.stores.Store.share.Given as goal

abbrev pub invariant-loop-index : goal.invariant-loop-index
invariant-loop-index l = AreShared l.upto l.shelf-items l.shelves.items l.index
