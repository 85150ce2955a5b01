use Rattle.focus_row.proofs.BatchLaws.{is_there}
use Rattle.focus_row.proofs.between.BetweenCuts.rows_of_batch.Goals as goal

pub batch_at-batch-requires-clause-there : goal.batch_at-batch-requires-clause-there
batch_at-batch-requires-clause-there c = is_there c.self.invariant.0 c.self.view_is c.requires.within
