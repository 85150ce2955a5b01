-- The plain fields are the line's parts, and the reading is that of its fields, and lends them.
use Rattle.std.proofs.Common.{◌∷◌, sym, ap, subst, ◌∙◌}
use Rattle.metering_model.specs.Batch.{Reads}
use Rattle.metering_model.specs.declared.Version.TheVariants.{B1}
use Rattle.metering_model.specs.BatchReading.{record_in}
use Rattle.record_view.specs.Parts.{lent, AreLentApart}
use Rattle.record_view.proofs.LentLaws.{fields_lent}
use Rattle.record_view.proofs.LineLaws.{reading_line}
use Rattle.record_view.proofs.TagLaws.{texts_of_parts}
use Rattle.record_view.proofs.PlainParts.{not_there}
use Rattle.record_view.proofs.PlainReadings.{plain_rest}
use Rattle.record_view.proofs.plain_records.plain_record.Goals as goal

pub returns-in-Ok-clause-ok : goal.returns-in-Ok-clause-ok
returns-in-Ok-clause-ok c =
    let parts = c.in_ok-fields.ensures.parts c.in-Ok.ensures.stamps in
    sym (reading_line c.args.letter.now (lent c.args.rest) c.in_ok-fields.fields parts) ∙ c.in-Ok.ensures.ok

pub returns-in-Ok-clause-lent : goal.returns-in-Ok-clause-lent
returns-in-Ok-clause-lent c = λ source from to h.
    let parts = c.in_ok-fields.ensures.parts c.in-Ok.ensures.stamps in
    subst (AreLentApart source from to) (sym c.in-Ok.ensures.lent)
    (fields_lent source from to c.in_ok-fields.fields c.in_ok-fields.ensures.plain.tags (subst (AreLentApart source from to) parts h))

pub returns-in_err-fields-clause-none : goal.returns-in_err-fields-clause-none
returns-in_err-fields-clause-none c = not_there _ (λ h. c.in_err-fields.ensures.none (plain_rest c.args.letter.now c.args.rest.text.now h))

pub returns-in-Err-clause-none : goal.returns-in-Err-clause-none
returns-in-Err-clause-none c = λ h.
    let stamps = c.in_ok-fields.ensures.stamps (plain_rest c.args.letter.now c.args.rest.text.now h) in
    let parts = c.in_ok-fields.ensures.parts stamps in
    c.in-Err.ensures.err (Reads h.reading)
    (reading_line c.args.letter.now (lent c.args.rest) c.in_ok-fields.fields parts
    ∙ (ap (λ ts. record_in B1 (c.args.letter.now ∷ ts)) (texts_of_parts 124 (lent c.args.rest)) ∙ h.read))
