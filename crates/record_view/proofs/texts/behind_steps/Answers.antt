-- Each step passes bytes of a text, or finds one that is none.
use Rattle.std.proofs.Common.{◌&&◌, drop, sym, ap, ◌∙◌}
use Rattle.std.proofs.lemmas.List.{take_rest}
use Rattle.metering_model.specs.Batch.{is_text}
use Rattle.record_view.proofs.TextLanes.{text_in_parts}
use Rattle.record_view.proofs.texts.behind_steps.Goals as goal

pub loop-rest-preserved : goal.loop-rest-preserved
loop-rest-preserved g c =
    let n = g.row.LANES in
    let rest = c.loop-rest.rest.now in
    c.loop-rest.invariant
    ∙ (text_in_parts n rest
    ∙ (ap (λ b. b && is_text (drop n rest)) (sym c.is_text_in_step.ensures ∙ c.if-not-is_text_in_step.false)
    ∙ sym (ap is_text (take_rest rest n))))

pub returns-then-not-is_text_in_step : goal.returns-then-not-is_text_in_step
returns-then-not-is_text_in_step g c =
    let n = g.row.LANES in
    let rest = c.loop-rest.rest.now in
    c.loop-rest.invariant
    ∙ (text_in_parts n rest ∙ ap (λ b. b && is_text (drop n rest)) (sym c.is_text_in_step.ensures ∙ c.if-not-is_text_in_step.true))
