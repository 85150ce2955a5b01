use Rattle.std.proofs.Common.{[]}
use Rattle.batch_store.specs.Inner.Amended.{Adds}
use Rattle.batch_store.proofs.NamedBetween.{IsNamedBefore}
use Rattle.batch_store.proofs.stores.Store.amended.Given as goal

abbrev pub invariant-loop-agent : goal.invariant-loop-agent
invariant-loop-agent l = Adds (IsNamedBefore l.self.batches l.from l.to l.agent) [] l.places.items
