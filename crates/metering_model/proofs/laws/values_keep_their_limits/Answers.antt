use Rattle.metering_model.proofs.ValueBounds.{value_small, value_not_negative}
use Rattle.metering_model.proofs.laws.values_keep_their_limits.Goals as goal

pub returns-clause-limit : goal.returns-clause-limit
returns-clause-limit c = value_small

pub returns-clause-not_negative : goal.returns-clause-not_negative
returns-clause-not_negative c = λ sheet h at r upto meets found priced. value_not_negative sheet h at r found priced upto meets
