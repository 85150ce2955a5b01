-- No number needs quotation marks.
use Rattle.std.proofs.Common.{◌<◌, ◌^◌, [], ◌∷◌, ◌++◌, unsigned_abs, sym, ap, ◌∙◌, arith}
use Rattle.std.proofs.lemmas.Result.{on_ok_weaker}
use Rattle.metering_model.specs.NumberText.{spelling}
use Rattle.metering_model.specs.File.{quantity_or_null}
use Rattle.focus_csv.specs.Inner.Runs.{behind}
use Rattle.focus_csv.proofs.LineLaws.{number_behind}
use Rattle.focus_csv.proofs.numbers.spell_quantity.Goals as goal

pub returns-in-Some : goal.returns-in-Some
returns-in-Some c =
    let quantity = c.in-Some.quantity in
    let millionths = c.millionths-millionths.ensures in
    let small : unsigned_abs quantity < 10 ^ 64 = omega (arith, ap unsigned_abs millionths.value, millionths.within) in
    on_ok_weaker c.write_to.result
    (λ e. e ∙ ap (λ t. t ++ spelling 6 quantity) c.in_ok-begin.ensures ∙ number_behind 6 quantity small
    ∙ ap (λ q. behind (quantity_or_null q ∷ [])) (sym c.in-Some.is)) c.write_to.ensures.ok
