use Rattle.std.proofs.Common.{refl, replicate, arith}
use Rattle.fx_money.proofs.Ascii.{IsAscii-from_test}
use Rattle.fx_money.proofs.writing.Text.new.Goals as goal

pub invariant_of-result : goal.invariant_of-result
invariant_of-result c = (omega arith, IsAscii-from_test (replicate 34 0) refl)
