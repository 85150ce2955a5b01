-- The region of the last row.
use Rattle.std.proofs.Common.{rules}
use Rattle.focus_row.proofs.corrections.last_region.Goals as goal

pub returns-in-Some : goal.returns-in-Some
returns-in-Some c = search rules
