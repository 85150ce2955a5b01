use Rattle.std.proofs.Common.{rules}
use Rattle.input_check.proofs.kinds.kind_of.Goals as goal

pub returns-in-None : goal.returns-in-None
returns-in-None c = search rules
