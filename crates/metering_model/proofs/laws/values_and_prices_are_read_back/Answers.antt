use Rattle.metering_model.proofs.PriceTexts.{value_back, price_back}
use Rattle.metering_model.proofs.laws.values_and_prices_are_read_back.Goals as goal

pub returns-clause-values : goal.returns-clause-values
returns-clause-values c = value_back

pub returns-clause-prices : goal.returns-clause-prices
returns-clause-prices c = price_back
