use Rattle.std.proofs.Common.{cond, None, sym, ap, ◌∙◌}
use Rattle.std.specs.Option.{option_and_then}
use Rattle.fault_lines.specs.Fields.{fault_field, line_at}
use Rattle.fault_lines.proofs.FieldLines.{refused_line}
use Rattle.fault_lines.proofs.fields.field_of.Goals as goal

pub fault_field-requires : goal.fault_field-requires
fault_field-requires c = sym c.is_of_field.ensures ∙ c.if-is_of_field.true

pub returns-in-Some : goal.returns-in-Some
returns-in-Some c =
    let of = sym c.is_of_field.ensures ∙ c.if-is_of_field.true in
    let refused = refused_line c.args.text.now c.args.fault c.in-Some.line.now of c.requires c.in-Some.ensures in
    let told = ap (λ b. cond b (option_and_then fault_field (line_at c.args.text.now c.args.fault.line)) None) of ∙ ap (option_and_then fault_field) c.in-Some.ensures in
    c.fault_field.ensures refused.0 refused.1 ∙ sym told

pub returns-in-None : goal.returns-in-None
returns-in-None c =
    let of = sym c.is_of_field.ensures ∙ c.if-is_of_field.true in
    sym (ap (λ b. cond b (option_and_then fault_field (line_at c.args.text.now c.args.fault.line)) None) of ∙ ap (option_and_then fault_field) c.in-None.ensures)
