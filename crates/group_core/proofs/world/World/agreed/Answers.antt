use Rattle.group_core.proofs.Worlds.{one_chosen_here, learned_here, one_list_here, charged_once_here}
use Rattle.group_core.proofs.world.World.agreed.Goals as goal

pub returns-clause-one_cut : goal.returns-clause-one_cut
returns-clause-one_cut c = one_chosen_here c.args.self.now c.reached.ensures

pub returns-clause-learned : goal.returns-clause-learned
returns-clause-learned c = learned_here c.args.self.now c.reached.ensures

pub returns-clause-cuts : goal.returns-clause-cuts
returns-clause-cuts c = one_list_here c.args.self.now c.reached.ensures

pub returns-clause-charged_once : goal.returns-clause-charged_once
returns-clause-charged_once c = charged_once_here c.args.self.now c.reached.ensures
