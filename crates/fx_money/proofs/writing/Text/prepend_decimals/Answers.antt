use Rattle.metering_model.specs.NumberText.{decimals_of}
use Rattle.std.proofs.Common.{◌+◌, ◌++◌, length, drop, decimal, arith, ap, sym, ◌∙◌, length-drop}
use Rattle.std.proofs.lemmas.Fmt.{IsAscii-decimal}
use Rattle.fx_money.proofs.Buffers.{ascii_after, behind_first}
use Rattle.fx_money.proofs.Decimals.{decimals_all, places_of, decimal_behind_one, below_most, length-places}
use Rattle.fx_money.proofs.writing.Text.prepend_decimals.Goals as goal

pub overflow_add-behind_one : goal.overflow_add-behind_one
overflow_add-behind_one c = omega (arith, c.power.ensures, below_most c.args.places c.args.number c.requires.few c.requires.below)

pub write_digits-requires : goal.write_digits-requires
write_digits-requires c =
    let fields = c.self.inside in
    let digits = ap (λ t. decimal (t + c.args.number)) c.power.ensures
    ∙ decimal_behind_one c.args.places c.args.number c.requires.below (below_most c.args.places c.args.number c.requires.few c.requires.below) in (
      omega (arith, ap length digits, length-places c.args.places c.args.number, ap length c.self.view_is, length-drop fields.start fields.bytes, c.self.told, c.requires.room),
      omega (arith, c.self.told, c.self.invariant.0),
    )

pub invariant_of-self : goal.invariant_of-self
invariant_of-self c =
    let fields = c.self.inside in
    let digits = ap (λ t. decimal (t + c.args.number)) c.power.ensures
    ∙ decimal_behind_one c.args.places c.args.number c.requires.below (below_most c.args.places c.args.number c.requires.few c.requires.below) in (
      omega (arith, c.write_digits.ensures.start, c.self.invariant.0, ap length digits),
      ascii_after c.write_digits.new.buf fields.bytes _ c.write_digits.result fields.start c.write_digits.ensures.written c.write_digits.ensures.before
          (IsAscii-decimal (c.power.result + c.args.number) (omega (arith, c.power.ensures, below_most c.args.places c.args.number c.requires.few c.requires.below))) c.self.invariant.1,
    )

pub returns : goal.returns
returns c =
    let fields = c.self.inside in
    let digits = ap (λ t. decimal (t + c.args.number)) c.power.ensures
    ∙ decimal_behind_one c.args.places c.args.number c.requires.below (below_most c.args.places c.args.number c.requires.few c.requires.below) in
    behind_first c.write_digits.new.buf (places_of c.args.places c.args.number ++ drop fields.start fields.bytes) c.write_digits.result 49
    (c.write_digits.ensures.written ∙ ap (λ ds. ds ++ drop fields.start fields.bytes) digits)
    ∙ ap (λ ds. ds ++ drop fields.start fields.bytes) (sym (decimals_all c.args.places c.args.number c.requires.below c.requires.last))
    ∙ ap (λ old. decimals_of c.args.places c.args.number ++ old) c.self.view_is
