use Rattle.batch_store.proofs.LastDue.{FrontSoFar}
use Rattle.batch_store.proofs.stores.Store.due_front.Given as goal

abbrev pub invariant-loop-agent : goal.invariant-loop-agent
invariant-loop-agent l = FrontSoFar l.end l.self.batches l.cut l.to l.agent
