-- All of the bytes are digits, and their number is counted in the unit of the last.
use Rattle.std.proofs.Common.{◌≡◌, ◌*◌, ◌-◌, ◌^◌, length, take, sym, ap, ap₂, ◌∙◌, arith, subst, ◌<◌}
use Rattle.std.proofs.lemmas.List.{take_all}
use Rattle.std.proofs.lemmas.Grind.{common_steps}
use Rattle.metering_model.specs.NumberText.{number_of}
use Rattle.fx_money.proofs.Usual.{worth_is, worth_small}
use Rattle.fx_money.proofs.reading.usual_decimals.Goals as goal

pub returns-clause-value : goal.returns-clause-value
returns-clause-value c =
    let ds = c.args.decimals.now in
    let few = c.leading-part.result.1 in
    let all : take few ds ≡ ds = take_all few ds (omega arith) in
    let count : few ≡ length ds = omega arith in
    ap₂ (λ n u. n * u) (c.leading-part.ensures.number ∙ ap number_of all) (c.last_unit.ensures ∙ ap (λ k. 10 ^ (6 - k)) count)
    ∙ worth_is 6 ds (omega arith)

pub returns-clause-small : goal.returns-clause-small
returns-clause-small c =
    subst (λ u. c.leading-part.result.0 * u < 1_000_000) (sym c.last_unit.ensures)
    (worth_small c.leading-part.result.0 c.leading-part.result.1 6 (omega arith) c.leading-part.ensures.small)

pub returns-clause-form : goal.returns-clause-form
returns-clause-form c = grind (arith, common_steps)
