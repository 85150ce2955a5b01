use Rattle.std.proofs.Common.{rules}
use Rattle.paxos_ballot.proofs.ballots.majority.Goals as goal

pub returns : goal.returns
returns c = search rules
