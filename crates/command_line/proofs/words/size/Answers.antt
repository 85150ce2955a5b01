use Rattle.std.proofs.Common.{refl}
use Rattle.command_line.proofs.words.size.Goals as goal

pub returns-clause-given : goal.returns-clause-given
returns-clause-given c =
    let nodes = c.in_ok-number.ensures.given in
    let agents = c.in_ok-number-2.ensures.given in
    let batches = c.in_ok-number-3.ensures.given in
    let periods = c.in_ok-number-4.ensures.given in
    record {
      nodes = nodes.2;
      agents = agents.2;
      batches = batches.2;
      periods = periods.2;
      within = record {
        nodes_from = nodes.0;
        nodes_to = nodes.1;
        agents_from = agents.0;
        agents_to = agents.1;
        batches_from = batches.0;
        batches_to = batches.1;
        periods_from = periods.0;
        periods_to = periods.1;
      };
    }

pub returns-in_err-number-clause-not_given : goal.returns-in_err-number-clause-not_given
returns-in_err-number-clause-not_given c is size gives = c.in_err-number.ensures.not_given refl size.nodes gives.within.nodes_from gives.within.nodes_to gives.nodes

pub returns-in_err-number-2-clause-not_given : goal.returns-in_err-number-2-clause-not_given
returns-in_err-number-2-clause-not_given c is size gives = c.in_err-number-2.ensures.not_given refl size.agents gives.within.agents_from gives.within.agents_to gives.agents

pub returns-in_err-number-3-clause-not_given : goal.returns-in_err-number-3-clause-not_given
returns-in_err-number-3-clause-not_given c is size gives = c.in_err-number-3.ensures.not_given refl size.batches gives.within.batches_from gives.within.batches_to gives.batches

pub returns-in_err-number-4-clause-not_given : goal.returns-in_err-number-4-clause-not_given
returns-in_err-number-4-clause-not_given c is size gives = c.in_err-number-4.ensures.not_given refl size.periods gives.within.periods_from gives.within.periods_to gives.periods
