-- A row that no earlier one is like.
use Rattle.std.proofs.Common.{rules}
use Rattle.price_sheet.proofs.price_table.placed_price.Goals as goal

pub returns : goal.returns
returns c = search rules
