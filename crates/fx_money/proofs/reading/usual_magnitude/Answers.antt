-- The digits in front are a whole part, and behind the point are decimals.
use Rattle.std.proofs.Common.{◌*◌, ◌+◌, length, length-drop, sym, ap, ap₂, ◌∙◌, arith, Some}
use Rattle.std.proofs.lemmas.Bool.{eqb-false, eqb-true, ltb-true, false≢true}
use Rattle.std.proofs.lemmas.List.{take_rest}
use Rattle.metering_model.specs.NumberText.{is_decimal_part}
use Rattle.fx_money.proofs.Usual.{HasWhole, below_power, magnitude_whole, magnitude_parts, no_magnitude, has_usual}
use Rattle.fx_money.proofs.reading.usual_magnitude.Goals.{then-many-gt1, else-many-gt1, then-many-eq0-via-then-many-eq0, then-many-eq0-via-else-many-eq0+then-body-eq48}
use Rattle.fx_money.proofs.reading.usual_magnitude.Goals as goal

pub overflow_mul-result : goal.overflow_mul-result
overflow_mul-result c = omega (arith, below_power c.leading-whole.result.0 c.leading-whole.result.1 12 c.leading-whole.ensures.small (omega arith))

pub overflow_mul-result-2 : goal.overflow_mul-result-2
overflow_mul-result-2 c = omega (arith, below_power c.leading-whole.result.0 c.leading-whole.result.1 12 c.leading-whole.ensures.small (omega arith))

pub overflow_add-result : goal.overflow_add-result
overflow_add-result c = omega (arith, below_power c.leading-whole.result.0 c.leading-whole.result.1 12 c.leading-whole.ensures.small (omega arith), c.in_ok-part.ensures.small)

pub returns-then-many-body-clause-value : goal.returns-then-many-body-clause-value
returns-then-many-body-clause-value c =
    let t = c.args.body.now in
    let many = c.leading-whole.result.1 in
    let whole : HasWhole t many = record {
      some = omega arith;
      within = c.leading-whole.ensures.leads.within;
      digits = c.leading-whole.ensures.leads.digits;
      first = λ more zero. elim c.if-many-gt1.branch [
        | then-many-gt1 w ↦ eqb-false _ _ (sym w.value-is ∙ c.if-body-eq48.false) zero
        | else-many-gt1 w ↦ absurd (omega arith)
      ];
    } in
    magnitude_whole t many (omega arith) whole ∙ ap (λ n. Some (n * 1_000_000)) (sym c.leading-whole.ensures.number)

pub returns-clause-value : goal.returns-clause-value
returns-clause-value c =
    let t = c.args.body.now in
    let many = c.leading-whole.result.1 in
    let whole : HasWhole t many = record {
      some = omega arith;
      within = c.leading-whole.ensures.leads.within;
      digits = c.leading-whole.ensures.leads.digits;
      first = λ more zero. elim c.if-many-gt1.branch [
        | then-many-gt1 w ↦ eqb-false _ _ (sym w.value-is ∙ c.if-body-eq48.false) zero
        | else-many-gt1 w ↦ absurd (omega arith)
      ];
    } in
    magnitude_parts t _ many (omega arith) (take_rest t (many + 1)) c.in_ok-part.ensures.some c.in_ok-part.ensures.form whole
    ∙ ap₂ (λ n w. Some (n * 1_000_000 + w)) (sym c.leading-whole.ensures.number) (sym c.in_ok-part.ensures.value)

pub returns-then-many-body-clause-given : goal.returns-then-many-body-clause-given
returns-then-many-body-clause-given c = λ short. sym (returns-then-many-body-clause-value c)

pub returns-clause-given : goal.returns-clause-given
returns-clause-given c = λ short. sym (returns-clause-value c)

pub returns-then-many-eq0-clause-given : goal.returns-then-many-eq0-clause-given
returns-then-many-eq0-clause-given c = λ short.
    let t = c.args.body.now in
    let many = c.leading-whole.result.1 in
    sym (no_magnitude t (λ number.
    let usual = has_usual t many c.leading-whole.ensures.leads short number in
    elim c.then-many-eq0.branch [
      | then-many-eq0-via-then-many-eq0 w ↦ omega (arith, usual.some)
      | then-many-eq0-via-else-many-eq0+then-body-eq48 w ↦ elim w.if-many-gt1.branch [
        | then-many-gt1 v ↦ usual.first (omega arith) (eqb-true _ _ (sym v.value-is ∙ w.if-body-eq48.true))
        | else-many-gt1 v ↦ absurd (omega (arith, ltb-true 1 many (sym v.value-is ∙ w.if-body-eq48.true)))
      ]
    ]))

pub returns-then-body-many-ne46-clause-given : goal.returns-then-body-many-ne46-clause-given
returns-then-body-many-ne46-clause-given c = λ short.
    let t = c.args.body.now in
    let many = c.leading-whole.result.1 in
    sym (no_magnitude t (λ number.
    let usual = has_usual t many c.leading-whole.ensures.leads short number in
    omega (arith, usual.point)))

pub returns-in_err-part-clause-given : goal.returns-in_err-part-clause-given
returns-in_err-part-clause-given c = λ short.
    let t = c.args.body.now in
    let many = c.leading-whole.result.1 in
    c.from_residual.ensures ∙ sym (no_magnitude t (λ number.
    let usual = has_usual t many c.leading-whole.ensures.leads short number in
    let rest = take_rest t (many + 1) in
    let decimals = ap (is_decimal_part 6) rest ∙ usual.decimals in
    false≢true (c.in_err-part.ensures.given decimals (omega (arith, usual.behind (omega arith), length-drop (many + 1) t, ap length rest)))))
