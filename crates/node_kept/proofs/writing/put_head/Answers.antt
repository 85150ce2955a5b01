use Rattle.std.proofs.Common.{◌++◌, ◌∷◌, codes, decimal, map, take, get_or, ap, ◌∙◌, append_assoc}
use Rattle.std.specs.List.{join_with_byte}
use Rattle.node_kept.proofs.WriteSteps.{one_number_more}
use Rattle.node_kept.proofs.writing.put_head.Goals as goal

pub loop-number-preserved : goal.loop-number-preserved
loop-number-preserved c =
    let before = c.args.text.now.items in
    let numbers = c.args.numbers.now in
    let number = get_or numbers c.loop-number.number-index 0 in
    let line = join_with_byte 124 (codes "K1" ∷ map decimal (take c.loop-number.number-index numbers)) in
    c.in_ok-put_numbered.ensures.put
    ∙ ap (λ n. c.loop-number.text.items ++ 124 ∷ decimal n) c.from.ensures
    ∙ ap (λ t. t ++ 124 ∷ decimal number) c.loop-number.invariant
    ∙ append_assoc before line (124 ∷ decimal number)
    ∙ ap (λ t. before ++ t) (one_number_more (codes "K1") numbers c.loop-number.number-index c.loop-number-test.true)
