use Rattle.period_cut.proofs.PointwiseOrder.{at_least_itself, at_least_onward, at_least_both}
use Rattle.period_cut.proofs.laws.cuts_are_ordered_by_all_agents.Goals as goal

pub returns-clause-itself : goal.returns-clause-itself
returns-clause-itself c = at_least_itself

pub returns-clause-onward : goal.returns-clause-onward
returns-clause-onward c = at_least_onward

pub returns-clause-both : goal.returns-clause-both
returns-clause-both c = at_least_both
