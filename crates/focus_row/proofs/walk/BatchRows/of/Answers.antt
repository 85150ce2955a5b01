use Rattle.focus_row.proofs.BatchLaws.{is_there}
use Rattle.focus_row.proofs.walk.BatchRows.of.Goals as goal

pub batch_at-requires-clause-there : goal.batch_at-requires-clause-there
batch_at-requires-clause-there c = is_there c.cuts.invariant.0 c.cuts.view_is c.requires.within
