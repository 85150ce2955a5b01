use Rattle.metering_model.proofs.CutLaws.{last_of-set, last_of-set_other}
use Rattle.metering_model.proofs.laws.entries_of_cuts_are_set_alone.Goals as goal

pub returns-clause-was_put : goal.returns-clause-was_put
returns-clause-was_put c = last_of-set

pub returns-clause-others : goal.returns-clause-others
returns-clause-others c = last_of-set_other
