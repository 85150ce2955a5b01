use Rattle.metering_model.proofs.NumberLaws.{spelled_number, number_spelled}
use Rattle.metering_model.proofs.laws.numbers_are_read_as_they_are_spelled.Goals as goal

pub returns : goal.returns
returns c places text n = (number_spelled places text n, spelled_number places text n)
