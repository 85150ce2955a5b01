use Rattle.std.proofs.Common.{rules}
use Rattle.batch_player.proofs.rate.rate_batch.Goals as goal

pub returns-clause-file : goal.returns-clause-file
returns-clause-file g c = search rules
