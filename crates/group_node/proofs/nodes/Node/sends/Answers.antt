-- Which packets are answered.
use Rattle.std.proofs.Common.{rules}
use Rattle.group_node.proofs.nodes.Node.sends.Goals as goal

pub returns-then-votes : goal.returns-then-votes
returns-then-votes c = search rules
