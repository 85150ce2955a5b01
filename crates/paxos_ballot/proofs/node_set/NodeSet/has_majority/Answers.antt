-- As many bits as marks are set.
use Rattle.std.proofs.Common.{rules}
use Rattle.paxos_ballot.proofs.NodeMarks.{length-marks_of, ones-marks_of}
use Rattle.paxos_ballot.proofs.node_set.NodeSet.has_majority.Goals as goal

pub returns : goal.returns
returns c =
    let size = length-marks_of c.self.inside.nodes c.self.inside.bits in
    let counted = ones-marks_of c.self.inside.nodes c.self.inside.bits c.self.invariant.within in
    rw (← c.self.view_is, size, ← counted, c.from.ensures) (search rules)
