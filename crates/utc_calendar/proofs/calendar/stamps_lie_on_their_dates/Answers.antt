-- The time of the day is less than a day.
use Rattle.std.proofs.Common.{arith}
use Rattle.jiff_core.proofs.SignedLemmas.{signed_arith}
use Rattle.utc_calendar.proofs.calendar.stamps_lie_on_their_dates.Goals as goal

pub returns : goal.returns
returns c = λ text n stamp. omega (arith, signed_arith)
