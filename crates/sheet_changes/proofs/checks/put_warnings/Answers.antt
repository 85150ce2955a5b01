use Rattle.sheet_changes.proofs.CheckLaws.{is_whole}
use Rattle.sheet_changes.proofs.checks.put_warnings.Goals as goal

pub returns-in-Ok : goal.returns-in-Ok
returns-in-Ok c = c.put_from.ensures

pub returns-in-Err : goal.returns-in-Err
returns-in-Err c = absurd (is_whole c.args.text.now _ c.requires c.in-Err.ensures.whole)
