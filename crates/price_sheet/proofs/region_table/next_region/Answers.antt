-- A region is told as what was read of its table.
use Rattle.std.proofs.Common.{refl}
use Rattle.price_sheet.specs.SheetReading.{placed_region, next_region}
use Rattle.price_sheet.proofs.Chains.{taken_as, refused_as}
use Rattle.price_sheet.proofs.region_table.next_region.Goals as goal

pub returns-clause-taken : goal.returns-clause-taken
unfolding next_region
returns-clause-taken c = taken_as (placed_region c.args.rows.now) _ _ _ refl c.read.ensures c.placed_region.ensures.answer

pub returns-clause-refused : goal.returns-clause-refused
unfolding next_region
returns-clause-refused c = refused_as (placed_region c.args.rows.now) _ _ _ refl c.read.ensures c.placed_region.ensures.answer
