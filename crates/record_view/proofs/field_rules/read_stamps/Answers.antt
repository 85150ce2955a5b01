-- Two stamps that were read together are those of their texts, and where none were read one text is none.
use Rattle.record_view.proofs.RecordLaws.{stamps_read}
use Rattle.record_view.proofs.ReadingSteps.{stamps_not_read}
use Rattle.record_view.proofs.field_rules.read_stamps.Goals as goal

pub returns-in-Some-clause-ok : goal.returns-in-Some-clause-ok
returns-in-Some-clause-ok c = stamps_read c.args.start.now c.args.end.now c.in-Some.stamps c.in-Some.ensures

pub returns-in-None-clause-err : goal.returns-in-None-clause-err
returns-in-None-clause-err c = stamps_not_read c.args.start.now c.args.end.now c.in-None.ensures
