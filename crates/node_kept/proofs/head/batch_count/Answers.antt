-- How many batches a text says.
use Rattle.std.proofs.Common.{rules}
use Rattle.node_kept.proofs.head.batch_count.Goals as goal

pub returns : goal.returns
returns c = search rules
