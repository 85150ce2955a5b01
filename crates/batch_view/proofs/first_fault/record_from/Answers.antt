-- The record is that of the line, read in the batch's format.
use Rattle.std.proofs.Common.{rules}
use Rattle.batch_view.proofs.first_fault.record_from.Goals as goal

pub returns-in-Ok : goal.returns-in-Ok
returns-in-Ok c = search rules

pub returns-in-Err : goal.returns-in-Err
returns-in-Err c = search rules
