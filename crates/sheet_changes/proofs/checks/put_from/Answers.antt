use Rattle.std.proofs.Common.{◌++◌, sym, ap, ◌∙◌}
use Rattle.std.proofs.lemmas.Result.{on_ok_weaker}
use Rattle.sheet_changes.proofs.CheckLaws.{both_warned, is_opened}
use Rattle.sheet_changes.proofs.checks.put_from.Goals as goal

pub returns-in-Ok : goal.returns-in-Ok
returns-in-Ok c =
    on_ok_weaker c.put_unknown.result
    (λ told. told ∙ ap (λ t. c.args.told.now.items ++ t) (sym (both_warned c.args.text.now c.args.old.now _ c.requires.taken c.requires.whole c.in-Ok.ensures.section)))
    c.put_unknown.ensures

pub returns-in-Err : goal.returns-in-Err
returns-in-Err c = absurd (is_opened c.args.text.now _ c.requires.taken c.args.old.now c.requires.whole c.in-Err.ensures.section)
