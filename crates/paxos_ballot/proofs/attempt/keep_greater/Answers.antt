use Rattle.std.proofs.Common.{rules}
use Rattle.paxos_ballot.proofs.attempt.keep_greater.Goals as goal

pub returns-then-number : goal.returns-then-number
returns-then-number c = search rules

pub returns : goal.returns
returns c = search rules
