-- The line without its last field is read as one of format B1, and the region's rule stands behind all others.
use Rattle.std.proofs.Common.{Ok, Err, sym, ap, ◌∙◌}
use Rattle.metering_model.specs.declared.BatchCode.TheVariants.{Text}
use Rattle.record_view.specs.Parts.{lent}
use Rattle.record_view.proofs.RecordLaws.{text_met, text_broken}
use Rattle.record_view.proofs.RegionLines.{region_ok, front_err, broken_region, region_places, region_lends}
use Rattle.record_view.proofs.regions.reading_in_region.Goals as goal

pub returns-then-not-is_text-clause-err : goal.returns-then-not-is_text-clause-err
returns-then-not-is_text-clause-err c =
    let none = sym c.is_text.ensures ∙ c.if-not-is_text.true in
    broken_region c.args.letter.now (lent c.in-Some.front) (lent c.args.rest) c.in-Some.region Text c.requires.letter c.in-Some.ensures.parts (text_broken c.in-Some.region.text.now none)
    ∙ ap Err (sym c.fault_before.ensures)

pub returns-in-Ok-clause-ok : goal.returns-in-Ok-clause-ok
returns-in-Ok-clause-ok c =
    region_ok c.args.letter.now (lent c.in-Some.front) (lent c.args.rest) c.in-Some.region c.in-Ok.record (Ok c.in_region.result) c.requires.letter c.in-Some.ensures.parts c.in-Ok.ensures.ok (text_met c.in-Some.region.text.now (sym c.is_text.ensures ∙ c.if-not-is_text.false), c.in_region.ensures)

pub returns-in-Ok-clause-places : goal.returns-in-Ok-clause-places
returns-in-Ok-clause-places c =
    region_places c.args.letter.now (lent c.in-Some.front) (lent c.args.rest) c.in-Some.region c.in-Ok.record
    (Ok c.in_region.result) c.requires.letter c.in-Some.ensures.parts c.in-Ok.ensures.ok c.in-Ok.ensures.places
    (text_met c.in-Some.region.text.now (sym c.is_text.ensures ∙ c.if-not-is_text.false), c.in_region.ensures)

pub returns-in-Ok-clause-lent : goal.returns-in-Ok-clause-lent
returns-in-Ok-clause-lent c =
    region_lends c.args.letter.now (lent c.in-Some.front) (lent c.args.rest) c.in-Some.region c.in-Ok.record
    (Ok c.in_region.result) c.requires.letter c.in-Some.ensures.parts c.in-Some.ensures.adjoin c.in-Ok.ensures.ok c.in-Ok.ensures.lent
    (text_met c.in-Some.region.text.now (sym c.is_text.ensures ∙ c.if-not-is_text.false), c.in_region.ensures)

pub returns-in-Err-clause-err : goal.returns-in-Err-clause-err
returns-in-Err-clause-err c =
    front_err c.args.letter.now (lent c.in-Some.front) (lent c.args.rest) c.in-Some.region c.in-Err.code c.requires.letter c.in-Some.ensures.parts c.in-Err.ensures.err
