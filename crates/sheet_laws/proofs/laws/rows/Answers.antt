use Rattle.sheet_laws.proofs.PairedRows.{rows_pair, rows_stay}
use Rattle.sheet_laws.proofs.laws.rows.Goals as goal

pub returns-clause-pairs : goal.returns-clause-pairs
returns-clause-pairs c = rows_pair

pub returns-clause-all : goal.returns-clause-all
returns-clause-all c = rows_stay
