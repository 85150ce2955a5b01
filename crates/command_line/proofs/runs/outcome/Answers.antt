-- A command that is not threads gives no size: the answers say so where a wrong body would give one.
use Rattle.command_line.proofs.runs.outcome.Goals as goal

pub returns-in-Play-clause-threads : goal.returns-in-Play-clause-threads
returns-in-Play-clause-threads g c = tt
