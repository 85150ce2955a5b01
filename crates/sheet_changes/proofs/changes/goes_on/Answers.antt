use Rattle.std.proofs.Common.{rules}
use Rattle.sheet_changes.proofs.changes.goes_on.Goals as goal

pub returns-in-AlikeBefore : goal.returns-in-AlikeBefore
returns-in-AlikeBefore c = search rules
