use Rattle.metering_model.proofs.QuantityBounds.{pricing_quantity_between, pricing_quantity_at_most}
use Rattle.metering_model.proofs.laws.pricing_quantities_lie_between_0_and_their_values.Goals as goal

pub returns-clause-between : goal.returns-clause-between
returns-clause-between c = pricing_quantity_between

pub returns-clause-magnitude : goal.returns-clause-magnitude
returns-clause-magnitude c = pricing_quantity_at_most
