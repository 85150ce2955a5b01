use Rattle.fx_money.proofs.Digits.{IsSummedTo}
use Rattle.fx_money.proofs.reading.worth.Given as goal

abbrev pub invariant-loop-digit : goal.invariant-loop-digit
invariant-loop-digit l = IsSummedTo l.digits l.digit-index l.unit l.worth
