-- Whether a ballot is promised.
use Rattle.std.proofs.Common.{rules}
use Rattle.group_node.proofs.nodes.Node.promises.Goals as goal

pub returns-then-number-current_period : goal.returns-then-number-current_period
returns-then-number-current_period c = search rules
