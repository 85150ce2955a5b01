use Rattle.std.proofs.Common.{◌≡◌, ◌+◌, ◌==◌, ℕ, suc, sym, ap, subst, ◌∙◌, arith}
use Rattle.std.specs.List.{position}
use Rattle.std.proofs.lemmas.List.{take_rest}
use Rattle.byte_text.specs.Lines.{IsPast}
use Rattle.byte_text.proofs.PastLines.{past_next, past_end}
use Rattle.byte_text.proofs.finding.lines_length.Goals as goal

pub returns-in_err-length : goal.returns-in_err-length
returns-in_err-length c =
    let text = c.args.text.now in
    let none = ap (position (λ (x : ℕ). x == 10)) (sym (take_rest text c.loop.length)) ∙ sym c.in_err-length.ensures in
    let end = past_end text c.loop.counter c.loop.length c.loop.invariant none in
    rw c.from_residual.ensures (omega (arith, end, c.loop-test.true))

pub loop-preserved : goal.loop-preserved
loop-preserved c =
    let text = c.args.text.now in
    let i = c.in_ok-length.field-0 in
    let found = ap (position (λ (x : ℕ). x == 10)) (sym (take_rest text c.loop.length)) ∙ sym c.in_ok-length.ensures in
    let more : suc c.loop.counter ≡ c.loop.counter + 1 = omega arith in
    subst (λ n. IsPast text n (c.loop.length + (i + 1))) more (past_next text c.loop.counter c.loop.length i c.loop.invariant found)
