-- The parts of what was read.
use Rattle.std.proofs.Common.{arith}
use Rattle.std.proofs.lemmas.Grind.{common_steps}
use Rattle.node_kept.proofs.reading.parts_of.Goals as goal

pub returns : goal.returns
returns c = grind (arith, common_steps) steps 2000000
