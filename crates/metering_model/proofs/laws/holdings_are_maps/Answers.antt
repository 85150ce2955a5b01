use Rattle.metering_model.proofs.HoldingLaws.{IsHolding-put, IsHolding-up_to, held-put_same, held-put_other, put_held}
use Rattle.metering_model.proofs.laws.holdings_are_maps.Goals as goal

pub returns-clause-stays : goal.returns-clause-stays
returns-clause-stays c = IsHolding-put

pub returns-clause-found : goal.returns-clause-found
returns-clause-found c = held-put_same

pub returns-clause-others : goal.returns-clause-others
returns-clause-others c = λ h b agent seq _. held-put_other h b agent seq

pub returns-clause-cuts : goal.returns-clause-cuts
returns-clause-cuts c = IsHolding-up_to

pub returns-clause-there : goal.returns-clause-there
returns-clause-there c = put_held
