use Rattle.price_change_laws.proofs.ClosedMonths.{file_stays_if, rows_stay_alike}
use Rattle.price_change_laws.proofs.laws.later_months_stay_alike.Goals as goal

pub returns-clause-pairs : goal.returns-clause-pairs
returns-clause-pairs c = rows_stay_alike

pub returns-clause-all : goal.returns-clause-all
returns-clause-all c = file_stays_if
