-- The digits so far are above the limit, so all of them are.
use Rattle.std.proofs.Common.{◌+◌, arith}
use Rattle.byte_text.proofs.WholeLaws.{front_more, front_within}
use Rattle.byte_text.proofs.wholes.number_within.Goals as goal

pub returns-then-number-limit : goal.returns-then-number-limit
returns-then-number-limit c =
    let digits = c.args.digits.now in
    let i = c.loop-digit.digit-index in
    omega (arith, front_more digits i c.loop-digit-test.true, front_within digits (i + 1))
