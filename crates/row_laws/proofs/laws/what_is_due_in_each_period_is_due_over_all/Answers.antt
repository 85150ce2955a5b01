use Rattle.row_laws.proofs.DueEach.{due_each}
use Rattle.row_laws.proofs.laws.what_is_due_in_each_period_is_due_over_all.Goals as goal

pub returns : goal.returns
returns c = due_each
