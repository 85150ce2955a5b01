-- A number within its range.
use Rattle.std.proofs.Common.{rules}
use Rattle.sheet_text.specs.Keys.{per_under}
use Rattle.sheet_text.proofs.keys.per_under.Goals as goal

pub returns-clause-gives : goal.returns-clause-gives
unfolding per_under
returns-clause-gives c = search rules

pub returns-clause-range : goal.returns-clause-range
returns-clause-range c = search rules
