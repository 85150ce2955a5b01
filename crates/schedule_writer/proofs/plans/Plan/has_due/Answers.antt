use Rattle.std.proofs.Common.{ap₂, ◌∙◌, rules}
use Rattle.metering_model.specs.BatchReading.{is_same}
use Rattle.schedule_writer.proofs.PlanLaws.{cuts_tested}
use Rattle.schedule_writer.proofs.plans.Plan.has_due.Goals as goal

pub returns-in-Ok : goal.returns-in-Ok
returns-in-Ok c = cuts_tested _ _ _ c.same.ensures ∙ ap₂ is_same c.to.ensures.cut (search rules)
