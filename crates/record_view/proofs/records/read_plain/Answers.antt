-- The line's parts are its letter and what stands behind it, and there the record was read.
use Rattle.std.proofs.Common.{◌≢◌, ◌∙◌, length, sym, ap}
use Rattle.metering_model.specs.BatchReading.{record_in, fields_in}
use Rattle.record_view.specs.Parts.{lent}
use Rattle.record_view.proofs.LineLaws.{ok_along, line_fields, line_lent, record_apart, record_placed, record_lent}
use Rattle.record_view.proofs.PlainLines.{answered, if_answered, if_found}
use Rattle.record_view.proofs.PlainParts.{not_there, of_first}
use Rattle.record_view.proofs.PlainReadings.{reading_begins, kind_long, no_amendment_letter, plain_behind_letter, none_weaker}
use Rattle.record_view.proofs.records.read_plain.Goals as goal

pub returns-clause-ok : goal.returns-clause-ok
returns-clause-ok c =
    let found = c.plain_behind.result in
    let fields = line_fields (lent c.field_at.result) (lent c.in_ok-letter.letter) (lent c.in_ok-letter.rest) c.in_ok-letter.ensures.parts in
    if_found found _ (ok_along (answered found) _ _ (ap (record_in c.args.version) (fields ∙ ap fields_in c.field_at.ensures.text))
    (if_answered found _ c.plain_behind.ensures.ok))

pub returns-clause-lent : goal.returns-clause-lent
returns-clause-lent c =
    let source = c.args.source.now in
    let found = c.plain_behind.result in
    let place = c.field_at.ensures.span in
    let letter = lent c.in_ok-letter.letter in
    let rest = lent c.in_ok-letter.rest in
    let parts = c.in_ok-letter.ensures.parts in
    let whole = line_lent source c.args.span c.field_at.result c.requires.ordered c.requires.within c.field_at.ensures.text place in
    let apart = record_apart source c.args.span c.field_at.result letter rest (answered found)
    place whole parts (if_answered found _ c.plain_behind.ensures.lent) in
    if_found found _ (record_lent source c.args.span (answered found) apart
    (record_placed source c.args.span c.field_at.result letter rest (answered found)
    c.field_at.ensures.text place parts (if_answered found _ c.plain_behind.ensures.places)))

pub returns-in_err-letter-clause-all : goal.returns-in_err-letter-clause-all
returns-in_err-letter-clause-all c = not_there _ (λ h.
    let begins = reading_begins c.args.version _ h in
    of_first (λ t. length t ≢ 1) (lent c.field_at.result) _ _ _ (ap fields_in c.field_at.ensures.text ∙ begins.fields) c.in_err-letter.ensures.none (kind_long begins.kind))

pub returns-then-is_amendment-clause-all : goal.returns-then-is_amendment-clause-all
returns-then-is_amendment-clause-all c =
    no_amendment_letter c.args.version (lent c.field_at.result) (lent c.in_ok-letter.letter) (lent c.in_ok-letter.rest) _ c.field_at.ensures.text
    c.in_ok-letter.ensures.parts (sym c.is_amendment.ensures ∙ c.if-is_amendment.true)

pub returns-clause-all : goal.returns-clause-all
returns-clause-all c =
    none_weaker c.plain_behind.result (plain_behind_letter c.args.version (lent c.field_at.result) (lent c.in_ok-letter.letter) (lent c.in_ok-letter.rest) _
    c.field_at.ensures.text c.in_ok-letter.ensures.parts) c.plain_behind.ensures.none
