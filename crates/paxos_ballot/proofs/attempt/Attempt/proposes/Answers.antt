-- A promise makes the proposal once, as the nodes that promised become a majority.
use Rattle.std.proofs.Common.{rules}
use Rattle.paxos_ballot.proofs.attempt.Attempt.proposes.Goals as goal

pub returns-then-not-self : goal.returns-then-not-self
returns-then-not-self c = search rules
