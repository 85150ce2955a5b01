-- What an accepted vote does.
use Rattle.std.proofs.Common.{arith}
use Rattle.std.proofs.lemmas.Grind.{elements}
use Rattle.group_node.proofs.nodes.Node.on_accept.Goals as goal

pub returns-clause-does : goal.returns-clause-does
returns-clause-does c = grind (arith, elements) steps 2000000
