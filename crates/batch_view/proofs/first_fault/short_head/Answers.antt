-- Bytes of a batch's length are those whose head is read.
use Rattle.std.proofs.Common.{rules}
use Rattle.batch_view.proofs.first_fault.short_head.Goals as goal

pub returns : goal.returns
returns c = search rules
