-- The line's parts are its letter and what stands behind it, and there the record was read.
use Rattle.std.proofs.Common.{◌∷◌, ◌∙◌, ap, sym, slice_range}
use Rattle.metering_model.specs.declared.Version.TheVariants.{B1, B2}
use Rattle.metering_model.specs.BatchReading.{record_in, fields_in}
use Rattle.record_view.specs.Parts.{lent, parts_at}
use Rattle.record_view.specs.Inner.Placed.{texts_of}
use Rattle.record_view.proofs.LineLaws.{ok_along, err_along, ok_of, err_of, line_fields, one_field, line_lent, none_apart, record_apart, record_placed, record_lent}
use Rattle.record_view.proofs.records.read_exact.Goals as goal

pub returns-then-is_amendment-clause-ok : goal.returns-then-is_amendment-clause-ok
returns-then-is_amendment-clause-ok c =
    let fields = line_fields (lent c.field_at.result) (lent c.in-Some.letter) (lent c.in-Some.rest) c.in-Some.ensures.parts in
    ok_along c.amendment_behind.result _ _ (ap (record_in c.args.version) (fields ∙ ap fields_in c.field_at.ensures.text))
    (ok_of c.args.version c.amendment_behind.result (λ version. record_in version (c.in-Some.letter.text.now ∷ texts_of (parts_at 124 (lent c.in-Some.rest)))) c.amendment_behind.ensures.ok)

pub returns-then-is_amendment-clause-err : goal.returns-then-is_amendment-clause-err
returns-then-is_amendment-clause-err c =
    let fields = line_fields (lent c.field_at.result) (lent c.in-Some.letter) (lent c.in-Some.rest) c.in-Some.ensures.parts in
    err_along c.amendment_behind.result _ _ (ap (record_in c.args.version) (fields ∙ ap fields_in c.field_at.ensures.text))
    (err_of c.args.version c.amendment_behind.result (λ version. record_in version (c.in-Some.letter.text.now ∷ texts_of (parts_at 124 (lent c.in-Some.rest)))) c.amendment_behind.ensures.err)

pub returns-then-is_amendment-clause-lent : goal.returns-then-is_amendment-clause-lent
returns-then-is_amendment-clause-lent c =
    let source = c.args.source.now in
    let apart = none_apart source c.args.span c.amendment_behind.result c.amendment_behind.ensures.lent in
    record_lent source c.args.span c.amendment_behind.result apart
    (record_placed source c.args.span c.field_at.result (lent c.in-Some.letter) (lent c.in-Some.rest) c.amendment_behind.result
    c.field_at.ensures.text c.field_at.ensures.span c.in-Some.ensures.parts c.amendment_behind.ensures.places)

pub returns-in-B1-clause-ok : goal.returns-in-B1-clause-ok
returns-in-B1-clause-ok c =
    let fields = line_fields (lent c.field_at.result) (lent c.in-Some.letter) (lent c.in-Some.rest) c.in-Some.ensures.parts in
    ok_along c.exact_reading.result _ _ (ap (record_in B1) (fields ∙ ap fields_in c.field_at.ensures.text)
    ∙ ap (λ version. record_in version (fields_in (slice_range c.args.source.now c.args.span.from c.args.span.to))) (sym c.in-B1.is)) c.exact_reading.ensures.ok

pub returns-in-B1-clause-err : goal.returns-in-B1-clause-err
returns-in-B1-clause-err c =
    let fields = line_fields (lent c.field_at.result) (lent c.in-Some.letter) (lent c.in-Some.rest) c.in-Some.ensures.parts in
    err_along c.exact_reading.result _ _ (ap (record_in B1) (fields ∙ ap fields_in c.field_at.ensures.text)
    ∙ ap (λ version. record_in version (fields_in (slice_range c.args.source.now c.args.span.from c.args.span.to))) (sym c.in-B1.is)) c.exact_reading.ensures.err

pub returns-in-B1-clause-lent : goal.returns-in-B1-clause-lent
returns-in-B1-clause-lent c =
    let source = c.args.source.now in
    let place = c.field_at.ensures.span in
    let whole = line_lent source c.args.span c.field_at.result c.requires.ordered c.requires.within c.field_at.ensures.text place in
    let apart = record_apart source c.args.span c.field_at.result (lent c.in-Some.letter) (lent c.in-Some.rest) c.exact_reading.result
    place whole c.in-Some.ensures.parts c.exact_reading.ensures.lent in
    record_lent source c.args.span c.exact_reading.result apart
    (record_placed source c.args.span c.field_at.result (lent c.in-Some.letter) (lent c.in-Some.rest) c.exact_reading.result
    c.field_at.ensures.text place c.in-Some.ensures.parts c.exact_reading.ensures.places)

pub returns-in-B2-clause-ok : goal.returns-in-B2-clause-ok
returns-in-B2-clause-ok c =
    let fields = line_fields (lent c.field_at.result) (lent c.in-Some.letter) (lent c.in-Some.rest) c.in-Some.ensures.parts in
    ok_along c.reading_in_region.result _ _ (ap (record_in B2) (fields ∙ ap fields_in c.field_at.ensures.text)
    ∙ ap (λ version. record_in version (fields_in (slice_range c.args.source.now c.args.span.from c.args.span.to))) (sym c.in-B2.is)) c.reading_in_region.ensures.ok

pub returns-in-B2-clause-err : goal.returns-in-B2-clause-err
returns-in-B2-clause-err c =
    let fields = line_fields (lent c.field_at.result) (lent c.in-Some.letter) (lent c.in-Some.rest) c.in-Some.ensures.parts in
    err_along c.reading_in_region.result _ _ (ap (record_in B2) (fields ∙ ap fields_in c.field_at.ensures.text)
    ∙ ap (λ version. record_in version (fields_in (slice_range c.args.source.now c.args.span.from c.args.span.to))) (sym c.in-B2.is)) c.reading_in_region.ensures.err

pub returns-in-B2-clause-lent : goal.returns-in-B2-clause-lent
returns-in-B2-clause-lent c =
    let source = c.args.source.now in
    let place = c.field_at.ensures.span in
    let whole = line_lent source c.args.span c.field_at.result c.requires.ordered c.requires.within c.field_at.ensures.text place in
    let apart = record_apart source c.args.span c.field_at.result (lent c.in-Some.letter) (lent c.in-Some.rest) c.reading_in_region.result
    place whole c.in-Some.ensures.parts c.reading_in_region.ensures.lent in
    record_lent source c.args.span c.reading_in_region.result apart
    (record_placed source c.args.span c.field_at.result (lent c.in-Some.letter) (lent c.in-Some.rest) c.reading_in_region.result
    c.field_at.ensures.text place c.in-Some.ensures.parts c.reading_in_region.ensures.places)

pub returns-in-None-clause-err : goal.returns-in-None-clause-err
returns-in-None-clause-err c =
    sym (ap (λ t. record_in c.args.version (fields_in t)) c.field_at.ensures.text) ∙ one_field c.args.version (lent c.field_at.result) c.in-None.ensures.parts
