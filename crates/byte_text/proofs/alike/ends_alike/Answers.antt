use Rattle.std.proofs.Common.{◌-◌, length, take, drop, ap}
use Rattle.byte_text.proofs.SameTexts.{all_by_ends}
use Rattle.byte_text.proofs.alike.ends_alike.Goals as goal

pub returns-then-begin_alike : goal.returns-then-begin_alike
returns-then-begin_alike g c =
    let n = g.row.LANES in
    let left = c.args.left.now in
    let behind = length left - n in (
      λ last. all_by_ends n left c.args.right.now c.requires.same_length c.requires.from c.requires.to (c.begin_alike.ensures.0 c.if-begin_alike.true)
          (c.begin_alike-then-begin_alike.ensures.0 last),
      λ same. c.begin_alike-then-begin_alike.ensures.1 (ap (λ t. take n (take (length t - behind) (drop behind t))) same),
    )
