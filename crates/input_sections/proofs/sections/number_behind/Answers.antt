-- A section has one line at least.
use Rattle.std.proofs.Common.{rules}
use Rattle.input_sections.proofs.sections.number_behind.Goals as goal

pub returns-clause-value : goal.returns-clause-value
returns-clause-value c = search rules
