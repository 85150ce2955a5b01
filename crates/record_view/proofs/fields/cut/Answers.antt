use Rattle.std.proofs.Common.{rules}
use Rattle.record_view.proofs.fields.cut.Goals as goal

pub returns-clause-before : goal.returns-clause-before
returns-clause-before c = search rules
