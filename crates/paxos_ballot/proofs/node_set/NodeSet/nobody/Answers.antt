use Rattle.paxos_ballot.proofs.NodeMarks.{marks_of-zero}
use Rattle.paxos_ballot.proofs.node_set.NodeSet.nobody.Goals as goal

pub returns : goal.returns
returns c = marks_of-zero c.args.nodes
