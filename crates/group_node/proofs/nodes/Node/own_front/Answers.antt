use Rattle.std.proofs.Common.{rules}
use Rattle.group_node.proofs.nodes.Node.own_front.Goals as goal

pub returns-in-Some : goal.returns-in-Some
returns-in-Some c = search rules
