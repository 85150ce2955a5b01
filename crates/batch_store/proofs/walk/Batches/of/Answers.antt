use Rattle.batch_store.proofs.FromLemmas.{all_shelves}
use Rattle.batch_store.proofs.walk.Batches.of.Goals as goal

pub returns : goal.returns
returns c = all_shelves c.args.shelves.now
