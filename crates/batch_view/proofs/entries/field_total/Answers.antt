-- In format B2 a reading has its region for a tenth field.
use Rattle.std.proofs.Common.{rules}
use Rattle.batch_view.proofs.entries.field_total.Goals as goal

pub returns-in-B2-clause-value : goal.returns-in-B2-clause-value
returns-in-B2-clause-value c = search rules
