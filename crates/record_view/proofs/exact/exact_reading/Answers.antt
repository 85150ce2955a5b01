-- The parts behind the letter are the reading's fields, or too many or too few.
use Rattle.record_view.specs.Parts.{lent}
use Rattle.record_view.proofs.LineLaws.{ok_along, err_along, reading_line, no_reading_line, reading_lends, reading_parts_lent}
use Rattle.record_view.proofs.exact.exact_reading.Goals as goal

pub returns-in-Some-clause-ok : goal.returns-in-Some-clause-ok
returns-in-Some-clause-ok c =
    ok_along c.read_reading.result _ _ (reading_line c.args.letter.now (lent c.args.rest) c.in-Some.fields c.in-Some.ensures.some) c.read_reading.ensures.ok

pub returns-in-Some-clause-err : goal.returns-in-Some-clause-err
returns-in-Some-clause-err c =
    err_along c.read_reading.result _ _ (reading_line c.args.letter.now (lent c.args.rest) c.in-Some.fields c.in-Some.ensures.some) c.read_reading.ensures.err

pub returns-in-Some-clause-lent : goal.returns-in-Some-clause-lent
returns-in-Some-clause-lent c =
    reading_lends (lent c.args.rest) c.in-Some.fields c.read_reading.result c.in-Some.ensures.some c.read_reading.ensures.lent c.read_reading.ensures.tags

pub returns-in-None-clause-err : goal.returns-in-None-clause-err
returns-in-None-clause-err c = no_reading_line c.args.letter.now (lent c.args.rest) c.requires.letter c.in-None.ensures.none

pub returns-in-Some-clause-places : goal.returns-in-Some-clause-places
returns-in-Some-clause-places c =
    reading_parts_lent (lent c.args.rest) c.in-Some.fields c.read_reading.result c.in-Some.ensures.some c.read_reading.ensures.lent
