use Rattle.std.proofs.Common.{sym, ◌∙◌}
use Rattle.metering_model.proofs.FieldLaws.{same_read}
use Rattle.schedule_writer.proofs.AboveLaws.{same_sheet}
use Rattle.schedule_writer.proofs.above.behind_known.Goals as goal

pub returns-then-is_same : goal.returns-then-is_same
returns-then-is_same c = λ sheet behind is.
    same_sheet c.args.unread.now c.args.known.now behind _ _ sheet c.in-Some-sheet_lines.ensures c.in-Some.ensures
    (same_read _ _ (sym c.is_same.ensures ∙ c.if-is_same.true)) is
