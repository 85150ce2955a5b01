-- Which events a node brings about.
use Rattle.std.proofs.Common.{rules}
use Rattle.node_book.proofs.agreeing.is_event_of_node.Goals as goal

pub returns-in-Start : goal.returns-in-Start
returns-in-Start c = search rules
