use Rattle.std.proofs.Common.{◌+◌, ◌++◌, ◌∷◌, decimal, map, take, ap, ◌∙◌, append_assoc, get_or}
use Rattle.std.specs.List.{join_with_byte}
use Rattle.period_cut.proofs.CutTexts.{put_more}
use Rattle.period_cut.proofs.cuts.put_entries.Goals as goal

pub loop-seq-preserved : goal.loop-seq-preserved
loop-seq-preserved c =
    let before = c.args.text.now.items in
    let line = join_with_byte 124 (map decimal (take (c.loop-seq.seq-index + 1) c.args.entries.now)) in
    let seq = get_or c.in-Some.others.now c.loop-seq.seq-index 0 in
    c.in_ok-put_numbered.ensures.put
    ∙ ap (λ n. c.loop-seq.text.items ++ 124 ∷ decimal n) c.from-in-loop-seq.ensures
    ∙ ap (λ t. t ++ 124 ∷ decimal seq) c.loop-seq.invariant
    ∙ append_assoc before line (124 ∷ decimal seq)
    ∙ ap (λ t. before ++ t) (put_more c.in-Some.first.now c.in-Some.others.now c.args.entries.now c.loop-seq.seq-index c.in-Some.ensures.cases.0 c.loop-seq-test.true)
