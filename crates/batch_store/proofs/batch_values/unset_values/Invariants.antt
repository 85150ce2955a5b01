use Rattle.std.proofs.Common.{◌≡◌, length}
use Rattle.batch_store.proofs.AmendedValues.{AreNone}
use Rattle.batch_store.proofs.batch_values.unset_values.Given as goal

abbrev pub invariant-loop : goal.invariant-loop
invariant-loop l = (length l.values.items ≡ l.counter) × AreNone l.values.items
