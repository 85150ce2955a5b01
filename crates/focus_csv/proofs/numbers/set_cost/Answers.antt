-- No number needs quotation marks.
use Rattle.std.proofs.Common.{◌<◌, ◌^◌, ◌++◌, unsigned_abs, ap, ◌∙◌, arith}
use Rattle.std.proofs.lemmas.Result.{on_ok_weaker}
use Rattle.metering_model.specs.NumberText.{spelling}
use Rattle.focus_csv.proofs.LineLaws.{number_behind}
use Rattle.focus_csv.proofs.numbers.set_cost.Goals as goal

pub returns-else-units : goal.returns-else-units
returns-else-units c =
    let cost = c.args.cost in
    let units = c.units.ensures in
    let small : unsigned_abs cost < 10 ^ 64 = omega (arith, ap unsigned_abs units.value, units.within) in
    on_ok_weaker c.write_to.result
    (λ e. e ∙ ap (λ t. t ++ spelling 12 cost) c.in_ok-begin.ensures ∙ number_behind 12 cost small) c.write_to.ensures.ok
