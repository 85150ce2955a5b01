use Rattle.std.proofs.Common.{rules}
use Rattle.paxos_ballot.proofs.attempt.Attempt.on_promise.Goals as goal

pub returns : goal.returns
returns c = search rules
