use Rattle.row_laws.proofs.CountLaws.{at_most_once, once_if_reached, once_in_period}
use Rattle.row_laws.proofs.laws.each_reading_is_new_once.Goals as goal

pub returns-clause-at_most_once : goal.returns-clause-at_most_once
returns-clause-at_most_once c = at_most_once

pub returns-clause-if_reached : goal.returns-clause-if_reached
returns-clause-if_reached c = once_if_reached

pub returns-clause-when : goal.returns-clause-when
returns-clause-when c = once_in_period
