-- Two majorities have more marks than there are nodes.
use Rattle.std.proofs.Common.{ℕ, ◌+◌, ◌/◌, ◌≤◌, IsTrue, arith}
use Rattle.metering_model.specs.Ballot.{Nodes, has_majority}
use Rattle.paxos_ballot.proofs.SharedNode.{marked, shared_node}
use Rattle.paxos_ballot.proofs.laws.two_majorities_share_a_node.Goals as goal

enough : (nodes : ℕ) (set : Nodes) → IsTrue (has_majority nodes set) → nodes / 2 + 1 ≤ marked set
enough nodes set most = grind arith

pub returns : goal.returns
returns c = λ nodes one other size size' most most'.
    let many = enough nodes one most in
    let many' = enough nodes other most' in
    shared_node one other (omega arith) (omega arith)
