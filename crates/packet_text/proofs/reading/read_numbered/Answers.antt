use Rattle.std.proofs.Common.{Some, None, refl}
use Rattle.packet_text.proofs.NumberSteps.{few_numbers, numbers_of}
use Rattle.packet_text.proofs.reading.read_numbered.Goals as goal

pub returns-in_default : goal.returns-in_default
returns-in_default c = few_numbers _ c.in_default.ensures

pub returns-in_default-read_period : goal.returns-in_default-read_period
returns-in_default-read_period c = numbers_of _ _ _ c.in-Some.two.rest.now None _ c.in-Some.ensures c.in_default-read_period.ensures refl

pub returns-in-Some-read_ballot : goal.returns-in-Some-read_ballot
returns-in-Some-read_ballot c =
    numbers_of _ _ _ c.in-Some.two.rest.now (Some c.in-Some-read_period.period) (Some c.in-Some-read_ballot.ballot) c.in-Some.ensures c.in-Some-read_period.ensures c.in-Some-read_ballot.ensures

pub returns-in-None : goal.returns-in-None
returns-in-None c = numbers_of _ _ _ c.in-Some.two.rest.now (Some c.in-Some-read_period.period) None c.in-Some.ensures c.in-Some-read_period.ensures c.in-None.ensures
