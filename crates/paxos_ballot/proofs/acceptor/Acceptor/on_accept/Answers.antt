use Rattle.std.proofs.Common.{rules}
use Rattle.paxos_ballot.proofs.acceptor.Acceptor.on_accept.Goals as goal

pub returns-clause-answer : goal.returns-clause-answer
returns-clause-answer c = search rules

pub returns-clause-state : goal.returns-clause-state
returns-clause-state c = search rules
