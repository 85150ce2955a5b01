-- Where no region was taken off, the line is read as it is; else the region's rule stands behind all others.
use Rattle.std.proofs.Common.{◌∷◌, ◌∙◌, ap, Ok}
use Rattle.metering_model.specs.BatchReading.{record_in}
use Rattle.record_view.specs.Parts.{lent, parts_at}
use Rattle.record_view.specs.Inner.Placed.{texts_of}
use Rattle.record_view.specs.Lent.{lent_fields}
use Rattle.record_view.proofs.RegionLines.{region_ok, region_places, region_lends}
use Rattle.record_view.proofs.RecordLaws.{text_met}
use Rattle.record_view.proofs.PlainLines.{without_region, with_region, some_text}
use Rattle.record_view.proofs.PlainParts.{not_there}
use Rattle.record_view.proofs.PlainReadings.{no_bar_behind, plain_front}
use Rattle.record_view.proofs.plain_records.plain_behind.Goals as goal

pub returns-in-None-region-clause-places : goal.returns-in-None-region-clause-places
returns-in-None-region-clause-places c = λ first.
    let whole = without_region c.args.version (lent c.args.rest) (lent c.in_ok-front.front) c.in_ok-front.region c.in_ok-front.ensures.before c.in-None-region.is in
    c.in-Some.ensures.places first ∙ ap (λ t. lent_fields (first ∷ parts_at 124 t)) whole.1

pub returns-in-Some-region-clause-ok : goal.returns-in-Some-region-clause-ok
returns-in-Some-region-clause-ok c =
    let region = c.in-Some-region.region in
    let split = with_region c.args.version (lent c.args.rest) (lent c.in_ok-front.front) c.in_ok-front.region region c.in_ok-front.ensures.before c.in-Some-region.is in
    let is_text = text_met region.text.now (some_text c.in_ok-front.region region c.in_ok-front.ensures.text c.in-Some-region.is) in
    ap (λ version. record_in version (c.args.letter.now ∷ texts_of (parts_at 124 (lent c.args.rest)))) split.0
    ∙ region_ok c.args.letter.now (lent c.in_ok-front.front) (lent c.args.rest) region c.in-Some.record (Ok c.in_region.result) c.requires.letter split.1.parts c.in-Some.ensures.ok (is_text, c.in_region.ensures)

pub returns-in-Some-region-clause-places : goal.returns-in-Some-region-clause-places
returns-in-Some-region-clause-places c =
    let region = c.in-Some-region.region in
    let split = with_region c.args.version (lent c.args.rest) (lent c.in_ok-front.front) c.in_ok-front.region region c.in_ok-front.ensures.before c.in-Some-region.is in
    let is_text = text_met region.text.now (some_text c.in_ok-front.region region c.in_ok-front.ensures.text c.in-Some-region.is) in
    region_places c.args.letter.now (lent c.in_ok-front.front) (lent c.args.rest) region c.in-Some.record (Ok c.in_region.result) c.requires.letter split.1.parts c.in-Some.ensures.ok c.in-Some.ensures.places (is_text, c.in_region.ensures)

pub returns-in-Some-region-clause-lent : goal.returns-in-Some-region-clause-lent
returns-in-Some-region-clause-lent c =
    let region = c.in-Some-region.region in
    let split = with_region c.args.version (lent c.args.rest) (lent c.in_ok-front.front) c.in_ok-front.region region c.in_ok-front.ensures.before c.in-Some-region.is in
    let is_text = text_met region.text.now (some_text c.in_ok-front.region region c.in_ok-front.ensures.text c.in-Some-region.is) in
    region_lends c.args.letter.now (lent c.in_ok-front.front) (lent c.args.rest) region c.in-Some.record (Ok c.in_region.result) c.requires.letter split.1.parts split.1.adjoin c.in-Some.ensures.ok c.in-Some.ensures.lent (is_text, c.in_region.ensures)

pub returns-in_err-front-clause-none : goal.returns-in_err-front-clause-none
returns-in_err-front-clause-none c = not_there _ (λ h.
    no_bar_behind c.args.version c.args.letter.now (lent c.args.rest) (c.in_err-front.ensures.none h.plain) h)

pub returns-in-None-clause-none : goal.returns-in-None-clause-none
returns-in-None-clause-none c = λ h.
    c.in-None.ensures.none (plain_front c.args.version c.args.letter.now (lent c.args.rest) (lent c.in_ok-front.front) c.in_ok-front.region c.requires.letter
    c.in_ok-front.ensures.before c.in_ok-front.ensures.plain h)
