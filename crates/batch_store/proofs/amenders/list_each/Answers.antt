use Rattle.std.proofs.Common.{arith}
use Rattle.batch_store.proofs.amenders.list_each.Goals as goal

pub returns-clause-listed : goal.returns-clause-listed
returns-clause-listed c k d less earlier = c.loop-amendment.invariant.2 k d (omega (arith, less)) earlier
