-- A part that is no number makes the text no time.
use Rattle.std.proofs.Common.{◌∙◌}
use Rattle.utc_calendar.proofs.StampTexts.{no_hour, no_minute, no_second}
use Rattle.utc_calendar.proofs.dates.second_of_day.Goals as goal

pub returns-in_err-hour-clause-value : goal.returns-in_err-hour-clause-value
returns-in_err-hour-clause-value c = c.from_residual.ensures ∙ no_hour c.args.text.now c.in_err-hour.ensures.valid.1

pub returns-in_err-minute-clause-value : goal.returns-in_err-minute-clause-value
returns-in_err-minute-clause-value c = c.from_residual-in_err-minute.ensures ∙ no_minute c.args.text.now c.in_err-minute.ensures.valid.1

pub returns-in_err-second-clause-value : goal.returns-in_err-second-clause-value
returns-in_err-second-clause-value c = c.from_residual-in_err-second.ensures ∙ no_second c.args.text.now c.in_err-second.ensures.valid.1
