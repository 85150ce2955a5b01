use Rattle.row_laws.proofs.PricedRows.{prices_are_there, consumed_are_there}
use Rattle.row_laws.proofs.laws.usage_and_purchases_have_their_price.Goals as goal

pub returns-clause-price : goal.returns-clause-price
returns-clause-price c = prices_are_there

pub returns-clause-consumed : goal.returns-clause-consumed
returns-clause-consumed c = consumed_are_there
