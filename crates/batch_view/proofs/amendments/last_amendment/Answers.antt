use Rattle.std.proofs.Common.{arith}
use Rattle.batch_view.proofs.NamedLemmas.{named_before, last_names, last_is_last}
use Rattle.batch_view.proofs.amendments.last_amendment.Goals as goal
use Rattle.batch_view.proofs.amendments.last_amendment.Goals.{else-last-seq-via-then-last-seq+else-last-index, else-last-seq-via-else-last-seq}

pub returns-then-behind-eq0 : goal.returns-then-behind-eq0
returns-then-behind-eq0 c = λ k d h named.
    let before = named_before c.args.sorted.now c.args.seq c.args.index c.end_of_position-behind.result c.requires.small c.end_of_position-behind.ensures.point k d h named in
    omega (arith, before, c.if-behind-eq0.true)

pub returns-then-last-index : goal.returns-then-last-index
returns-then-last-index c =
    last_is_last c.args.sorted.now c.args.seq c.args.index c.end_of_position-behind.result c.requires.small c.end_of_position-behind.ensures.point
    c.requires.rising c.end_of_position-behind.ensures.within (omega arith) c.index-sorted-behind.result c.index-sorted-behind.is (c.if-last-seq.true, c.if-last-index.true)

pub returns-else-last-seq : goal.returns-else-last-seq
returns-else-last-seq c = λ k d h named.
    let last = last_names c.args.sorted.now c.args.seq c.args.index c.end_of_position-behind.result c.requires.small c.end_of_position-behind.ensures.point
    c.requires.rising c.end_of_position-behind.ensures.within (omega arith) c.index-sorted-behind.result c.index-sorted-behind.is (omega arith) k d h named in
    elim c.else-last-seq.branch [ else-last-seq-via-then-last-seq+else-last-index w ↦ w.if-last-index.false last.1 | else-last-seq-via-else-last-seq w ↦ w.if-last-seq.false last.0 ]
