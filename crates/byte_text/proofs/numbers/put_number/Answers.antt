-- A number below ten is one digit.
use Rattle.std.proofs.Common.{◌++◌, length, sym, ap, ◌∙◌, arith}
use Rattle.std.proofs.lemmas.Fmt.{decimal_digit}
use Rattle.byte_text.proofs.numbers.put_number.Goals as goal

pub returns-in-Ok-clause-put : goal.returns-in-Ok-clause-put
returns-in-Ok-clause-put c =
    let n = c.args.number in
    let small = c.if-number-lt10.true in
    c.in-Ok.ensures.items ∙ ap (λ ds. c.args.text.now.items ++ ds) (sym (decimal_digit n small))

pub returns-in-Err-clause-full : goal.returns-in-Err-clause-full
returns-in-Err-clause-full c =
    let one = ap length (decimal_digit c.args.number c.if-number-lt10.true) in
    omega (arith, one, c.in-Err.ensures.full)
