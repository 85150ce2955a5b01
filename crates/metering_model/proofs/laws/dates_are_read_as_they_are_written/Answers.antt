-- Each clause is the pair of the two ways, reading and writing.
use Rattle.metering_model.proofs.laws.dates_are_read_as_they_are_written.Goals as goal
use Rattle.metering_model.proofs.DateLaws.{month_read, month_written, day_read, day_written, stamp_read, stamp_written}

pub returns-clause-months : goal.returns-clause-months
returns-clause-months c = λ text m. (month_read text m, month_written text m)

pub returns-clause-days : goal.returns-clause-days
returns-clause-days c = λ text n. (day_read text n, day_written text n)

pub returns-clause-stamps : goal.returns-clause-stamps
returns-clause-stamps c = λ text n. (stamp_read text n, stamp_written text n)
