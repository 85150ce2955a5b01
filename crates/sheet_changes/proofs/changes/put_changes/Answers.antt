use Rattle.std.proofs.Common.{◌≡◌, ap₂, length, rules, sym, subst}
use Rattle.std.specs.Prelude.{◌==◌}
use Rattle.sheet_changes.specs.Inner.Compared.{StaysBy}
use Rattle.sheet_changes.specs.Likenesses.{likeness_of}
use Rattle.sheet_changes.proofs.SaidLaws.{says, stays}
use Rattle.sheet_changes.proofs.changes.put_changes.Goals as goal

pub returns : goal.returns
returns c =
    let first = c.in-Ok.ensures in
    let l = likeness_of c.likeness_between-likeness.result in
    let by = stays c.args.old.now c.args.new.now c.requires.rules.0 c.requires.rules.1 l c.likeness_between-likeness.ensures c.args.before c.put_likeness.new.text.items c.put_regions.new.text.items c.in-Ok-put_regions.ensures in
    let long : c.len.result ≡ length c.put_regions.new.text.items = search rules in
    let long_first : c.len-first.result ≡ length c.put_likeness.new.text.items = search rules in
    let same : (c.len.result == c.len-first.result) ≡ (length c.put_regions.new.text.items == length c.put_likeness.new.text.items) = ap₂ (λ m n. m == n) long long_first in
    record {
      says =
          says c.args.old.now c.args.new.now c.requires.rules.0 c.requires.rules.1 l c.likeness_between-likeness.ensures
          c.args.text.now.items first.0 c.put_likeness.new.text.items c.put_regions.new.text.items c.requires.empty first.1 first.2 c.in-Ok-put_regions.ensures;
      stays = (λ yes. by.0 (subst (StaysBy c.args.before l) same (c.stays.ensures.0 yes)), λ stays. c.stays.ensures.1 (subst (StaysBy c.args.before l) (sym same) (by.1 stays)));
    }
