-- A row is told by its first fault, with its place.
use Rattle.std.proofs.Common.{rules}
use Rattle.price_sheet.proofs.region_table.placed_region.Goals as goal

pub returns-clause-answer : goal.returns-clause-answer
returns-clause-answer c = search rules
