-- Where a part of the text is missing it is no stamp, and else it is that of its day and its time.
use Rattle.std.proofs.Common.{◌∙◌}
use Rattle.utc_calendar.proofs.StampTexts.{no_form, no_day, on_day}
use Rattle.utc_calendar.proofs.dates.Stamp.read.Goals as goal

pub returns-in_err-date : goal.returns-in_err-date
returns-in_err-date c = c.from_residual.ensures ∙ no_form c.args.text.now c.in_err-date.ensures

pub returns-in_err-read : goal.returns-in_err-read
returns-in_err-read c =
    let parts = c.in_ok-date.ensures in
    c.from_residual-in_err-read.ensures ∙ no_day c.args.text.now _ _ parts.0 parts.1 parts.2 c.in_err-read.ensures

pub returns : goal.returns
returns c =
    let parts = c.in_ok-date.ensures in
    on_day c.args.text.now _ _ c.in_ok-read.field-0 _ parts.0 parts.1 parts.2 c.in_ok-read.ensures c.on_day.ensures
