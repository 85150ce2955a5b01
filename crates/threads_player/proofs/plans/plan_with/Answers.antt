use Rattle.std.proofs.Common.{refl, ◌∙◌}
use Rattle.threads_player.proofs.plans.plan_with.Goals as goal

pub returns-clause-agents : goal.returns-clause-agents
returns-clause-agents c = c.in_ok-journals.ensures.count

pub returns-clause-plan : goal.returns-clause-plan
returns-clause-plan c = rw (c.in_ok-new.ensures.ok, c.in_ok-new-2.ensures.ok ∙ c.in_ok-sample.ensures, c.in_ok-journals.ensures.texts, c.from.ensures) refl
