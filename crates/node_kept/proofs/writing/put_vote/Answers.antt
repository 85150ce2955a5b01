-- The line of the vote's cut.
use Rattle.std.proofs.Common.{rules}
use Rattle.node_kept.proofs.writing.put_vote.Goals as goal

pub returns-in-Some : goal.returns-in-Some
returns-in-Some c = search rules
