use Rattle.std.proofs.Common.{rules}
use Rattle.batch_view.proofs.packed.short.Goals as goal

pub returns : goal.returns
returns c = search rules
