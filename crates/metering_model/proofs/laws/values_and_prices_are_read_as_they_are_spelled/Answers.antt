use Rattle.metering_model.proofs.PriceTexts.{value_spelled, spelled_value, value_beyond, beyond_values, price_spelled, spelled_price, price_beyond, beyond_prices}
use Rattle.metering_model.proofs.laws.values_and_prices_are_read_as_they_are_spelled.Goals as goal

pub returns-clause-values : goal.returns-clause-values
returns-clause-values c = λ text n. (value_spelled text n, spelled_value text n)

pub returns-clause-values_beyond : goal.returns-clause-values_beyond
returns-clause-values_beyond c = λ text. (value_beyond text, beyond_values text)

pub returns-clause-prices : goal.returns-clause-prices
returns-clause-prices c = λ text n. (price_spelled text n, spelled_price text n)

pub returns-clause-prices_beyond : goal.returns-clause-prices_beyond
returns-clause-prices_beyond c = λ text. (price_beyond text, beyond_prices text)
