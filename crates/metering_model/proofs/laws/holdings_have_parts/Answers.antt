use Rattle.metering_model.proofs.PartLaws.{part_of_itself, IsPartOf-trans, IsPartOf-grown, IsPartOf-put, up_to_is_part}
use Rattle.metering_model.proofs.laws.holdings_have_parts.Goals as goal

pub returns-clause-itself : goal.returns-clause-itself
returns-clause-itself c = part_of_itself

pub returns-clause-onward : goal.returns-clause-onward
returns-clause-onward c = IsPartOf-trans

pub returns-clause-grown : goal.returns-clause-grown
returns-clause-grown c = IsPartOf-grown

pub returns-clause-stays : goal.returns-clause-stays
returns-clause-stays c = IsPartOf-put

pub returns-clause-part : goal.returns-clause-part
returns-clause-part c = λ h cut. up_to_is_part cut h
