use Rattle.std.proofs.Common.{List, ℕ, ◌∷◌, Some, length, refl, ap, ◌∙◌, arith}
use Rattle.metering_model.specs.BatchReading.{fields_in}
use Rattle.fault_lines.proofs.FieldPlaces.{amendment_told, too_few}
use Rattle.fault_lines.proofs.fields.amendment_field.Goals as goal

pub returns-in_default : goal.returns-in_default
returns-in_default c = λ version is. absurd (too_few c.args.line.now version (fields_in c.args.line.now) refl (omega (arith, c.in_default.ensures)) is)

pub returns-in-None : goal.returns-in-None
returns-in-None c = λ version is.
    let all = ap length c.in-Some.ensures in
    let last = ap length c.in-None.ensures in
    absurd (too_few c.args.line.now version (fields_in c.args.line.now) refl (omega (arith, all, last)) is)

pub returns-in-Some-split_at_bar : goal.returns-in-Some-split_at_bar
returns-in-Some-split_at_bar c = λ version is.
    let letter = c.in-Some.front.first.now in
    let seq = c.in-Some.front.second.now in
    let index = c.in-Some-split_at_bar.index.now in
    let are = c.in-Some.ensures ∙ ap (λ (ts : List (List ℕ)). letter ∷ seq ∷ ts) c.in-Some-split_at_bar.ensures in
    ap Some c.number_field.ensures ∙ amendment_told c.args.line.now version letter seq index (fields_in c.in-Some-split_at_bar.field-0-1.now) are c.requires.few is
