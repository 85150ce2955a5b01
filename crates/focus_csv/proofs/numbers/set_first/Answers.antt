-- No number needs quotation marks.
use Rattle.std.proofs.Common.{◌<◌, ◌^◌, ◌++◌, unsigned_abs, ap, ◌∙◌, arith}
use Rattle.std.proofs.lemmas.Result.{on_ok_weaker}
use Rattle.metering_model.specs.NumberText.{spelling}
use Rattle.focus_csv.proofs.LineLaws.{first_quoted}
use Rattle.focus_csv.proofs.numbers.set_first.Goals as goal

pub returns : goal.returns
returns c =
    let cost = c.args.cost in
    let units = c.units-units.ensures in
    let small : unsigned_abs cost < 10 ^ 64 = omega (arith, ap unsigned_abs units.value, units.within) in
    on_ok_weaker c.write_to.result
    (λ e. e ∙ ap (λ t. t ++ spelling 12 cost) c.clear.ensures.bytes ∙ first_quoted 12 cost small) c.write_to.ensures.ok
