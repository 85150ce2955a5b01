use Rattle.group_laws.proofs.OneNode.{delivered_alike, asked_alike, changes_just}
use Rattle.group_laws.proofs.laws.a_node_acts_by_itself.Goals as goal

pub returns : goal.returns
returns c = record { delivered = delivered_alike; inputs = asked_alike; changes = changes_just }
