-- Decimals are digits, at most six, and the last is not 0.
use Rattle.std.proofs.Common.{rules}
use Rattle.fx_money.proofs.reading.is_decimal_part.Goals as goal

pub returns-then-text-le-PLACES : goal.returns-then-text-le-PLACES
returns-then-text-le-PLACES c = search rules
