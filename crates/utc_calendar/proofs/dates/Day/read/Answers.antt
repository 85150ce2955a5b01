-- A day's text is that of its month and two digits more.
use Rattle.std.proofs.Common.{◌≡◌, length, get_or, refl, ◌∙◌, sym, ap, arith}
use Rattle.std.proofs.lemmas.Bool.{false≢true, false_from_ne_true}
use Rattle.metering_model.specs.Dates.{are_digits, day_of_month}
use Rattle.utc_calendar.proofs.DayTexts.{day_in-month, day_in-no_digits}
use Rattle.utc_calendar.proofs.dates.Day.read.Goals as goal

pub returns-in_err-day : goal.returns-in_err-day
returns-in_err-day c =
    let digits = false_from_ne_true (are_digits c.args.text.now 8 2) (λ e. false≢true (c.in_err-day.ensures.valid.1 e)) in
    c.from_residual-in_err-day.ensures ∙ sym (day_in-no_digits c.args.text.now digits)

pub returns : goal.returns
returns c =
    let ten : length c.args.text.now ≡ 10 = omega arith in
    let dash : get_or c.args.text.now 7 0 ≡ 45 = omega arith in
    let month = sym c.in_ok-month.ensures.value in
    let digits = c.in_ok-day.ensures.valid.0 refl in
    c.of_month.ensures
    ∙ ap (λ n. day_of_month n c.in_ok-month.month) c.in_ok-day.ensures.value
    ∙ sym (day_in-month c.args.text.now c.in_ok-month.month ten dash month digits)
