use Rattle.std.proofs.Common.{rules}
use Rattle.batch_view.proofs.batch.kind_found.Goals as goal

pub returns-in-Reading : goal.returns-in-Reading
returns-in-Reading c = search rules

pub returns-in-Amend : goal.returns-in-Amend
returns-in-Amend c = search rules
