use Rattle.group_laws.proofs.OneAgent.{journaled_alike, changes_only, bad_refused}
use Rattle.group_laws.proofs.laws.an_agent_journals_by_itself.Goals as goal

pub returns : goal.returns
returns c = record { journaled = journaled_alike; changes = changes_only; bad = bad_refused }
