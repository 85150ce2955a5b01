use Rattle.std.proofs.Common.{rules}
use Rattle.charge_row.proofs.rows.row_by.Goals as goal

pub returns-clause-row : goal.returns-clause-row
returns-clause-row c = search rules
