use Rattle.std.proofs.Common.{◌<◌}
use Rattle.fx_money.proofs.Digits.{IsReadTo}
use Rattle.fx_money.proofs.reading.number.Given as goal

abbrev pub invariant-loop-digit : goal.invariant-loop-digit
invariant-loop-digit l = (l.number < 1_000_000_000_000) × IsReadTo l.digits l.digit-index l.number
