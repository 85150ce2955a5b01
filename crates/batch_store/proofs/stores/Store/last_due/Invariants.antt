use Rattle.std.proofs.Common.{ℕ, ◌<◌, ◌≤◌}
use Rattle.batch_store.specs.Inner.Fronts.{StartsBefore}
use Rattle.batch_store.proofs.stores.Store.last_due.Given as goal

abbrev pub invariant-loop-seq : goal.invariant-loop-seq
invariant-loop-seq l = (s : ℕ) → l.after < s → s ≤ l.seq → StartsBefore l.moment l.self.batches l.agent s
