-- The node's bit is set, and the others stay.
use Rattle.std.proofs.Common.{◌<◌, arith, length}
use mathlib.Core.Path.{ap}
use Rattle.std.proofs.lemmas.Nat.{one_shl, or_lt, pow_below}
use Rattle.paxos_ballot.proofs.NodeMarks.{length-marks_of, marks_of-or}
use Rattle.paxos_ballot.proofs.node_set.NodeSet.with.Goals as goal

below : (c : goal.After-from) → c.from.result < c.self.inside.nodes
below c =
    let size = length-marks_of c.self.inside.nodes c.self.inside.bits in
    omega (arith, size, ap length c.self.view_is)

pub overflow_shl-mark : goal.overflow_shl-mark
overflow_shl-mark c = omega (arith, below c, c.self.invariant.few)

pub invariant_of-result : goal.invariant_of-result
invariant_of-result c =
    rw (one_shl c.from.result 128 (omega (arith, below c, c.self.invariant.few)))
    (record { few = c.self.invariant.few; within = or_lt c.self.inside.nodes _ _ c.self.invariant.within (pow_below _ _ (below c)) })

pub returns : goal.returns
returns c =
    rw (one_shl c.from.result 128 (omega (arith, below c, c.self.invariant.few)), ← c.self.view_is, ← c.from.ensures)
    (marks_of-or c.self.inside.nodes c.self.inside.bits c.from.result (below c))
