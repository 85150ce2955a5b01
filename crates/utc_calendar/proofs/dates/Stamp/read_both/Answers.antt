-- Where a part of one text is missing, that text is no stamp, and there are no two.
use Rattle.std.proofs.Common.{◌∙◌}
use Rattle.metering_model.specs.Dates.{stamp_in}
use Rattle.utc_calendar.proofs.StampTexts.{no_form, no_day, on_day, none_first, none_second}
use Rattle.utc_calendar.proofs.dates.Stamp.read_both.Goals as goal

pub returns-in_err-second_date : goal.returns-in_err-second_date
returns-in_err-second_date c =
    c.from_residual-in_err-second_date.ensures
    ∙ none_second (stamp_in c.args.first.now) (stamp_in c.args.second.now) (no_form c.args.second.now c.in_err-second_date.ensures)

pub returns-in_err-first_day : goal.returns-in_err-first_day
returns-in_err-first_day c =
    let parts = c.in_ok-first_date.ensures in
    c.from_residual-in_err-first_day.ensures
    ∙ none_first (stamp_in c.args.first.now) (stamp_in c.args.second.now) (no_day c.args.first.now _ _ parts.0 parts.1 parts.2 c.in_err-first_day.ensures)

pub returns-in_err-second_day : goal.returns-in_err-second_day
returns-in_err-second_day c =
    let parts = c.in_ok-second_date.ensures in
    c.from_residual-in_err-second_day.ensures
    ∙ none_second (stamp_in c.args.first.now) (stamp_in c.args.second.now) (no_day c.args.second.now _ _ parts.0 parts.1 parts.2 c.in_err-second_day.ensures)

pub returns-in_err-start : goal.returns-in_err-start
returns-in_err-start c =
    let parts = c.in_ok-first_date.ensures in
    c.from_residual-in_err-start.ensures
    ∙ none_first (stamp_in c.args.first.now) (stamp_in c.args.second.now)
    (on_day c.args.first.now _ _ c.in_ok-first_day.first_day _ parts.0 parts.1 parts.2 c.in_ok-first_day.ensures c.in_err-start.ensures)

pub returns-in_err-end : goal.returns-in_err-end
returns-in_err-end c =
    let parts = c.in_ok-second_date.ensures in
    c.from_residual-in_err-end.ensures
    ∙ none_second (stamp_in c.args.first.now) (stamp_in c.args.second.now)
    (on_day c.args.second.now _ _ c.in_ok-second_day.second_day _ parts.0 parts.1 parts.2 c.in_ok-second_day.ensures c.in_err-end.ensures)
