-- Packets and nodes of a run are within the limits that a step asks for.
use Rattle.log_text.proofs.AddedSteps.{begins_in_run, gets_in_run}
use Rattle.log_text.proofs.steps.a_step_of_a_run_adds_at_most_one_increment.Goals as goal

pub returns-clause-gets : goal.returns-clause-gets
returns-clause-gets c = λ room voters observers agents sheet issuer events few some most. gets_in_run room voters observers agents sheet issuer events few some most

pub returns-clause-begins : goal.returns-clause-begins
returns-clause-begins c = λ room voters observers agents sheet issuer events few some most. begins_in_run room voters observers agents sheet issuer events few some most
