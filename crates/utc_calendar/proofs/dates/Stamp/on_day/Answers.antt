-- A second of a day of those years lies on that day.
use Rattle.std.proofs.Common.{arith}
use Rattle.jiff_core.proofs.SignedLemmas.{signed_arith}
use Rattle.utc_calendar.proofs.dates.Stamp.on_day.Goals as goal

pub invariant_of-result : goal.invariant_of-result
invariant_of-result c =
    let within = c.in_ok-second.ensures.range in
    (omega (arith, signed_arith), omega (arith, signed_arith))
