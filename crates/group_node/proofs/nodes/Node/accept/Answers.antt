use Rattle.std.proofs.Common.{rules}
use Rattle.group_node.proofs.nodes.Node.accept.Goals as goal

pub returns : goal.returns
returns c = search rules
