-- A number that is there is in its range, or below it.
use Rattle.std.proofs.Common.{rules}
use Rattle.byte_text.proofs.wholes.read_whole.Goals as goal

pub returns-then-number-low-clause-value : goal.returns-then-number-low-clause-value
returns-then-number-low-clause-value c = search rules

pub returns-else-number-low-clause-value : goal.returns-else-number-low-clause-value
returns-else-number-low-clause-value c = search rules
