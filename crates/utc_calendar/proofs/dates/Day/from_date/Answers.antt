-- A date of those years has a day number of theirs.
use Rattle.std.proofs.Common.{◌≡◌, arith, ap, ◌∙◌}
use Rattle.jiff_core.specs.Date.{epoch_day}
use Rattle.jiff_core.proofs.SignedLemmas.{signed_arith}
use Rattle.jiff_core.proofs.DateLemmas.{civil}
use Rattle.utc_calendar.proofs.DayRange.{IsDayNumber-date}
use Rattle.utc_calendar.proofs.dates.Day.from_date.Goals as goal

pub invariant_of-result : goal.invariant_of-result
invariant_of-result c =
    let range = IsDayNumber-date _ _ _ (civil c.args.date) c.requires in
    let same : c.to_unix_epoch_day.result ≡ epoch_day c.args.date = c.to_unix_epoch_day.ensures.value ∙ ap epoch_day c.to_plain.ensures in
    (omega (arith, signed_arith), omega (arith, signed_arith))
