-- A line, or all that is ahead.
use Rattle.std.proofs.Common.{rules}
use Rattle.line_source.proofs.lines.take_part.Goals as goal

pub returns-in-Some-clause-part : goal.returns-in-Some-clause-part
returns-in-Some-clause-part c = search rules
