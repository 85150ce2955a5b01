-- What a node keeps is what its log tells, step by step.
use Rattle.log_text.proofs.AddedSteps.{adds_one, goes_on_to, has_step}
use Rattle.log_text.proofs.steps.a_step_adds_at_most_one_increment.Goals as goal

pub returns-clause-one : goal.returns-clause-one
returns-clause-one c = λ w i n s h may. adds_one w i n h s may

pub returns-clause-has : goal.returns-clause-has
returns-clause-has c = λ w i n s h may. has_step w i n h s may

pub returns-clause-read : goal.returns-clause-read
returns-clause-read c = goes_on_to
