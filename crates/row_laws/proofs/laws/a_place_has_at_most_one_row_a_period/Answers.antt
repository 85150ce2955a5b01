use Rattle.row_laws.proofs.PeriodRows.{at_most_one_row, row_there, no_row_there}
use Rattle.row_laws.proofs.laws.a_place_has_at_most_one_row_a_period.Goals as goal

pub returns-clause-at_most : goal.returns-clause-at_most
returns-clause-at_most c = λ sheet issuer h period from to at ok. at_most_one_row sheet issuer h ok period from to at

pub returns-clause-which : goal.returns-clause-which
returns-clause-which c = λ sheet issuer h period from to at r ok found. row_there sheet issuer h ok period from to at r found

pub returns-clause-no_reading : goal.returns-clause-no_reading
returns-clause-no_reading c = λ sheet issuer h period from to at ok none. no_row_there sheet issuer h ok period from to at none
