use Rattle.metering_model.proofs.CutLaws.{at_least_itself, at_least_each, at_least-trans, at_least_zero}
use Rattle.metering_model.proofs.AgreementLaws.{last_of_grows}
use Rattle.metering_model.proofs.laws.cuts_are_ordered.Goals as goal

pub returns-clause-itself : goal.returns-clause-itself
returns-clause-itself c = at_least_itself

pub returns-clause-onward : goal.returns-clause-onward
returns-clause-onward c = at_least-trans

pub returns-clause-above_zero : goal.returns-clause-above_zero
returns-clause-above_zero c = at_least_zero

pub returns-clause-each : goal.returns-clause-each
returns-clause-each c = last_of_grows

pub returns-clause-each_is_enough : goal.returns-clause-each_is_enough
returns-clause-each_is_enough c = at_least_each
