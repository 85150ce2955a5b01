use Rattle.std.proofs.Common.{◌≤◌, ap, subst, ◌∙◌}
use Rattle.metering_model.specs.KeptText.{KeptAmong}
use Rattle.log_text.specs.LogText.{learned_in}
use Rattle.log_text.specs.Inner.Reading.{gone_on}
use Rattle.log_text.proofs.ReadFields.{period_alone}
use Rattle.log_text.proofs.increment_lines.add_learned.Goals as goal

pub returns-in_default : goal.returns-in_default
returns-in_default c =
    let k = c.args.parts.now in
    let some = c.agents-agents.ensures.stored.agents_from in
    ap (gone_on k) (ap (learned_in k.agents) c.in_default.ensures ∙ period_alone k.agents c.args.fields.now (subst (λ n. 1 ≤ n) (ap (λ (x : KeptAmong). x.agents) c.parts.view_is) some))
