-- A reading's region is its id, named as the sheet names it; a near one with the same id has the same name.
use Rattle.std.proofs.Common.{rules}
use Rattle.charge_row.proofs.regions.region_columns.Goals as goal

pub returns-then-eq-clause-id : goal.returns-then-eq-clause-id
returns-then-eq-clause-id c = search rules

pub returns-clause-id : goal.returns-clause-id
returns-clause-id c = search rules

pub returns-clause-name : goal.returns-clause-name
returns-clause-name c = search rules
