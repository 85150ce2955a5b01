use Rattle.std.proofs.Common.{ℕ, ◌<◌}
use Rattle.batch_store.proofs.LeastAbsent.{HasAllUpTo}
use Rattle.batch_store.proofs.stores.Store.first_missing.Given as goal

abbrev pub invariant-loop-agent : goal.invariant-loop-agent
invariant-loop-agent l = (a : ℕ) → a < l.agent → HasAllUpTo l.self.batches l.cut a
