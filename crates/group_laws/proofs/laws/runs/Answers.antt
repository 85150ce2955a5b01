use Rattle.group_laws.proofs.EveryRun.{holds_after, legal_holds_after, cuts_grow}
use Rattle.group_laws.proofs.laws.runs.Goals as goal

pub returns-clause-holds : goal.returns-clause-holds
returns-clause-holds c = holds_after

pub returns-clause-grows : goal.returns-clause-grows
returns-clause-grows c = cuts_grow

pub returns-clause-histories : goal.returns-clause-histories
returns-clause-histories c = legal_holds_after
