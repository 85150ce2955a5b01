use Rattle.std.proofs.Common.{◌∷◌, ◌++◌, ap, sym, ◌∙◌, arith, length, length-append}
use Rattle.metering_model.specs.NumberText.{decimals_of}
use Rattle.fx_money.proofs.Decimals.{point_before, no_point, length-decimals_le}
use Rattle.fx_money.proofs.writing.Text.prepend_fraction.Goals as goal

pub returns-then-number-eq0 : goal.returns-then-number-eq0
returns-then-number-eq0 c = ap (λ ds. ds ++ c.args.self.now) (sym (no_point c.args.places c.args.number c.if-number-eq0.true))

pub prepend-requires-clause-room : goal.prepend-requires-clause-room
prepend-requires-clause-room c =
    let cut = c.without_zeros-number.result in
    omega (
      arith,
      ap length c.prepend_decimals.ensures,
      length-append (decimals_of cut.1 cut.0) c.args.self.now,
      length-decimals_le cut.1 cut.0,
    )

pub returns : goal.returns
returns c =
    c.prepend.ensures
    ∙ ap (λ text. 46 ∷ text) (c.prepend_decimals.ensures ∙ ap (λ ds. ds ++ c.args.self.now) c.without_zeros-number.ensures.same)
    ∙ ap (λ ds. ds ++ c.args.self.now) (sym (point_before c.args.places c.args.number (omega arith) c.requires.below))
