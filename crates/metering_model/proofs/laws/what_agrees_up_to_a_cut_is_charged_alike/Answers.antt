use Rattle.metering_model.proofs.HoldingLaws.{same_up_to}
use Rattle.metering_model.proofs.AgreementLaws.{same_value, same_placed_rows, same_rows}
use Rattle.metering_model.proofs.laws.what_agrees_up_to_a_cut_is_charged_alike.Goals as goal

pub returns-clause-batches : goal.returns-clause-batches
returns-clause-batches c = λ h k to. same_up_to to h k

pub returns-clause-values : goal.returns-clause-values
returns-clause-values c = same_value

pub returns-clause-placed : goal.returns-clause-placed
returns-clause-placed c = same_placed_rows

pub returns-clause-rows : goal.returns-clause-rows
returns-clause-rows c = same_rows
