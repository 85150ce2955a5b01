use Rattle.std.proofs.Common.{◌≡◌, Some, Err, ap, ◌∙◌, subst}
use Rattle.metering_model.specs.BatchReading.{fields_in, record_in}
use Rattle.fault_lines.proofs.FieldLines.{of_no_fields}
use Rattle.fault_lines.proofs.FieldPlaces.{short_number, tags_told, text_told, time_told, value_told}
use Rattle.fault_lines.proofs.fields.fault_field.Goals as goal

pub returns-in_default : goal.returns-in_default
returns-in_default c = λ version is.
    let number = short_number c.args.line.now version c.args.code (of_no_fields c.args.code c.requires) c.in_default.ensures is in
    c.amendment_field.ensures version (subst (λ k. record_in version (fields_in c.args.line.now) ≡ Err k) number is)

pub returns-in-Time : goal.returns-in-Time
returns-in-Time c = λ version is.
    ap Some c.time_field.ensures
    ∙ time_told c.args.line.now version c.in-Some.fields c.in-Some.ensures (subst (λ k. record_in version (fields_in c.args.line.now) ≡ Err k) c.in-Time.is is)

pub returns-in-Text : goal.returns-in-Text
returns-in-Text c = λ version is.
    ap Some c.text_field.ensures
    ∙ text_told c.args.line.now version c.in-Some.fields c.in-Some.ensures (subst (λ k. record_in version (fields_in c.args.line.now) ≡ Err k) c.in-Text.is is)

pub returns-in-Number : goal.returns-in-Number
returns-in-Number c = λ version is.
    value_told c.args.line.now version c.in-Some.fields c.in-Some.ensures (subst (λ k. record_in version (fields_in c.args.line.now) ≡ Err k) c.in-Number.is is)

pub returns-in-Tags : goal.returns-in-Tags
returns-in-Tags c = λ version is.
    tags_told c.args.line.now version c.in-Some.fields c.in-Some.ensures (subst (λ k. record_in version (fields_in c.args.line.now) ≡ Err k) c.in-Tags.is is)
