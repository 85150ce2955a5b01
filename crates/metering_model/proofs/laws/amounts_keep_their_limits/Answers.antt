use Rattle.metering_model.proofs.ChargeBounds.{charge_within_limits, rows_within_limits}
use Rattle.metering_model.proofs.laws.amounts_keep_their_limits.Goals as goal

pub returns-clause-charges : goal.returns-clause-charges
returns-clause-charges c = charge_within_limits

pub returns-clause-rows : goal.returns-clause-rows
returns-clause-rows c = rows_within_limits
