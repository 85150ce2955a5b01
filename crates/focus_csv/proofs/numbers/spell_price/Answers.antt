-- No number needs quotation marks.
use Rattle.std.proofs.Common.{◌<◌, ◌^◌, [], ◌∷◌, ◌++◌, pos, sym, ap, ◌∙◌, arith}
use Rattle.std.proofs.lemmas.Result.{on_ok_weaker}
use Rattle.metering_model.specs.NumberText.{spelling}
use Rattle.metering_model.specs.File.{price_or_null}
use Rattle.focus_csv.specs.Inner.Runs.{behind}
use Rattle.focus_csv.proofs.LineLaws.{number_behind}
use Rattle.focus_csv.proofs.numbers.spell_price.Goals as goal

pub returns-in-Some : goal.returns-in-Some
returns-in-Some c =
    let price = c.in-Some.price in
    let millionths = c.millionths-millionths.ensures in
    let small : price < 10 ^ 64 = omega (arith, millionths.value, millionths.within) in
    on_ok_weaker c.write_to.result
    (λ e. e ∙ ap (λ t. t ++ spelling 6 (pos price)) c.in_ok-begin.ensures ∙ number_behind 6 (pos price) small
    ∙ ap (λ p. behind (price_or_null p ∷ [])) (sym c.in-Some.is)) c.write_to.ensures.ok
