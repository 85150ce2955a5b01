use Rattle.batch_store.specs.Inner.Amended.{Adds, IsNamedOf}
use Rattle.batch_store.proofs.stores.Store.add_amended.Given as goal

abbrev pub invariant-loop-seq : goal.invariant-loop-seq
invariant-loop-seq l = Adds (IsNamedOf l.self.batches l.agent l.from l.seq) l.fn.places.items l.places.items
