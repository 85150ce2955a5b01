-- What a decided cut does.
use Rattle.std.proofs.Common.{arith}
use Rattle.std.proofs.lemmas.Grind.{common_steps}
use Rattle.group_node.proofs.nodes.Node.on_decided.Goals as goal

pub returns-clause-does : goal.returns-clause-does
returns-clause-does c = grind (arith, common_steps) steps 2000000
