use Rattle.metering_model.proofs.Fronts.{front_goes_on, front_is_greatest, length-front, front_of_part}
use Rattle.metering_model.proofs.laws.a_front_goes_on_from_its_cut.Goals as goal

pub returns-clause-grows : goal.returns-clause-grows
returns-clause-grows c = λ base period h cut. (front_goes_on base period h cut).grows

pub returns-clause-due : goal.returns-clause-due
returns-clause-due c = λ base period h cut. (front_goes_on base period h cut).due

pub returns-clause-greatest : goal.returns-clause-greatest
returns-clause-greatest c = front_is_greatest

pub returns-clause-size : goal.returns-clause-size
returns-clause-size c = length-front

pub returns-clause-parts : goal.returns-clause-parts
returns-clause-parts c = front_of_part
