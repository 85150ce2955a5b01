use Rattle.price_change_laws.proofs.LongerSheets.{takes_over, takes_over_itself, takes_over_both, ends_by, ends_by_itself, names_of_export}
use Rattle.price_change_laws.proofs.laws.longer_sheets_take_over.Goals as goal

pub returns-clause-taken : goal.returns-clause-taken
returns-clause-taken c = takes_over

pub returns-clause-itself : goal.returns-clause-itself
returns-clause-itself c = takes_over_itself

pub returns-clause-chained : goal.returns-clause-chained
returns-clause-chained c = takes_over_both

pub returns-clause-ends : goal.returns-clause-ends
returns-clause-ends c = ends_by

pub returns-clause-ends_itself : goal.returns-clause-ends_itself
returns-clause-ends_itself c = ends_by_itself

pub returns-clause-named : goal.returns-clause-named
returns-clause-named c = names_of_export
