-- A price is told as what was read of its table.
use Rattle.std.proofs.Common.{refl}
use Rattle.price_sheet.specs.SheetReading.{placed_price, next_price}
use Rattle.price_sheet.proofs.Chains.{taken_as, refused_as}
use Rattle.price_sheet.proofs.price_table.next_price.Goals as goal

pub returns-clause-taken : goal.returns-clause-taken
unfolding next_price
returns-clause-taken c = taken_as (placed_price c.args.rows.now) _ _ _ refl c.read.ensures c.placed_price.ensures

pub returns-clause-refused : goal.returns-clause-refused
unfolding next_price
returns-clause-refused c = refused_as (placed_price c.args.rows.now) _ _ _ refl c.read.ensures c.placed_price.ensures
