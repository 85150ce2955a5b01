use Rattle.std.proofs.Common.{sym, ◌∙◌}
use Rattle.schedule_writer.proofs.AboveLaws.{begun_sheet}
use Rattle.schedule_writer.proofs.above.behind_sheet.Goals as goal

pub returns-then-begins_with : goal.returns-then-begins_with
returns-then-begins_with c =
    let begun = begun_sheet c.args.input.now c.in-Ok.given c.args.sheet.now c.requires c.in-Ok.ensures.whole (sym c.begins_with.ensures ∙ c.if-begins_with.true) in
    c.behind_known.ensures c.args.sheet.now begun.0 begun.1
