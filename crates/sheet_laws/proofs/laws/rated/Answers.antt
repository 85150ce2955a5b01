use Rattle.sheet_laws.proofs.RatedAlone.{same_journaled, priced_journaled, rated_in_time, rated_before, rows_pair_alone}
use Rattle.sheet_laws.proofs.laws.rated.Goals as goal

pub returns-clause-batches : goal.returns-clause-batches
returns-clause-batches c = same_journaled

pub returns-clause-priced : goal.returns-clause-priced
returns-clause-priced c = priced_journaled

pub returns-clause-files : goal.returns-clause-files
returns-clause-files c = rated_in_time

pub returns-clause-all : goal.returns-clause-all
returns-clause-all c = rated_before

pub returns-clause-pairs : goal.returns-clause-pairs
returns-clause-pairs c = rows_pair_alone
