use Rattle.std.proofs.Common.{rules}
use Rattle.group_state.proofs.journaling.keep_batch.Goals as goal

pub returns-clause-journals : goal.returns-clause-journals
returns-clause-journals c = search rules
