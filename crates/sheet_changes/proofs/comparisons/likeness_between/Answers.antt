use Rattle.std.proofs.Common.{◌≡◌, rules}
use Rattle.sheet_changes.proofs.LikenessLaws.{alike, alike_before}
use Rattle.sheet_changes.proofs.comparisons.likeness_between.Goals as goal

pub returns-in-Some-first_unlike_day : goal.returns-in-Some-first_unlike_day
returns-in-Some-first_unlike_day c =
    let base : c.args.new.now.base ≡ c.args.old.now.base = search rules in
    alike_before c.args.old.now c.args.new.now base c.in_default.ensures c.in-Some-first_unlike_day.day c.in-Some-first_unlike_day.ensures

pub returns-in-None : goal.returns-in-None
returns-in-None c =
    let base : c.args.new.now.base ≡ c.args.old.now.base = search rules in
    alike c.args.old.now c.args.new.now base c.in_default.ensures c.in-None.ensures
