-- The parts behind the letter are the amendment's fields, or too many or too few.
use Rattle.std.proofs.Common.{◌∷◌}
use Rattle.metering_model.specs.BatchReading.{record_in}
use Rattle.record_view.specs.Parts.{lent, parts_at}
use Rattle.record_view.specs.Inner.Placed.{texts_of}
use Rattle.record_view.proofs.LineLaws.{all_ok, all_err, amendment_line, no_amendment_line, amendment_parts_lent}
use Rattle.record_view.proofs.exact.amendment_behind.Goals as goal

pub returns-in-Some-clause-ok : goal.returns-in-Some-clause-ok
returns-in-Some-clause-ok c =
    all_ok c.read_amendment.result _ (λ version. record_in version (c.args.letter.now ∷ texts_of (parts_at 124 (lent c.args.rest))))
    (λ version. amendment_line version c.args.letter.now (lent c.args.rest) c.in-Some.fields c.requires.letter c.in-Some.ensures.some) c.read_amendment.ensures.ok

pub returns-in-Some-clause-err : goal.returns-in-Some-clause-err
returns-in-Some-clause-err c =
    all_err c.read_amendment.result _ (λ version. record_in version (c.args.letter.now ∷ texts_of (parts_at 124 (lent c.args.rest))))
    (λ version. amendment_line version c.args.letter.now (lent c.args.rest) c.in-Some.fields c.requires.letter c.in-Some.ensures.some) c.read_amendment.ensures.err

pub returns-in-None-clause-err : goal.returns-in-None-clause-err
returns-in-None-clause-err c = λ version. no_amendment_line version c.args.letter.now (lent c.args.rest) c.requires.letter c.in-None.ensures.none

pub returns-in-Some-clause-places : goal.returns-in-Some-clause-places
returns-in-Some-clause-places c =
    amendment_parts_lent (lent c.args.rest) c.in-Some.fields c.read_amendment.result c.in-Some.ensures.some c.read_amendment.ensures.lent
