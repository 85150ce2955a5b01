use Rattle.metering_model.proofs.PriceLaws.{in_force_begun, in_force_last, in_force_alone, none_in_force, not_in_force, later_changes_nothing}
use Rattle.metering_model.proofs.laws.the_price_in_force_is_the_latest_that_has_begun.Goals as goal

pub returns-clause-has_begun : goal.returns-clause-has_begun
returns-clause-has_begun c = λ sheet sku day p e. in_force_begun sku day sheet p e

pub returns-clause-latest : goal.returns-clause-latest
returns-clause-latest c = λ sheet sku day p e. in_force_last sku day sheet p e

pub returns-clause-alone : goal.returns-clause-alone
returns-clause-alone c = in_force_alone

pub returns-clause-none : goal.returns-clause-none
returns-clause-none c = λ sheet sku day. (none_in_force sku day sheet, not_in_force sku day sheet)

pub returns-clause-later : goal.returns-clause-later
returns-clause-later c = λ sheet before after q sku day begins. later_changes_nothing sku day sheet before after q begins
