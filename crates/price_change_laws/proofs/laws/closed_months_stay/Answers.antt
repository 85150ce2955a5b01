use Rattle.price_change_laws.proofs.ClosedMonths.{file_stays, same_file, made_alike, charged_once, begins_there, are_journaled}
use Rattle.price_change_laws.proofs.laws.closed_months_stay.Goals as goal

pub returns-clause-files : goal.returns-clause-files
returns-clause-files c = file_stays

pub returns-clause-same : goal.returns-clause-same
returns-clause-same c = same_file

pub returns-clause-made : goal.returns-clause-made
returns-clause-made c = made_alike

pub returns-clause-once : goal.returns-clause-once
returns-clause-once c = charged_once

pub returns-clause-follows : goal.returns-clause-follows
returns-clause-follows c = begins_there

pub returns-clause-batches : goal.returns-clause-batches
returns-clause-batches c = are_journaled
