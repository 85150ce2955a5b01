use Rattle.std.proofs.Common.{◌∷◌, ◌++◌, decimal, map, ap, subst, ◌∙◌}
use Rattle.packet_text.specs.Inner.Pieces.{Puts, barred}
use Rattle.packet_text.proofs.Pieces.{puts_both, stayed}
use Rattle.packet_text.proofs.writing.put_proposal.Goals as goal

pub returns-in_default : goal.returns-in_default
returns-in_default c = stayed c.in_default.ensures.kept

pub returns : goal.returns
returns c =
    let old = c.args.text.now.items in
    let one = c.put_numbered.new.text.items in
    let new = c.put_numbered_cut.new.text.items in
    let word = c.args.word.now in
    let entries = map decimal c.args.cut.now in
    let first = c.in-Ok.ensures.put ∙ ap (λ n. old ++ (word ++ decimal n)) (c.from.ensures ∙ c.number.ensures.value) in
    puts_both c.put_numbered_cut.result old one new (word ++ decimal c.args.period) (barred (decimal c.args.ballot ∷ entries)) first
    (subst (λ n. Puts c.put_numbered_cut.result one new (barred (decimal n ∷ entries))) c.number-2.ensures c.put_numbered_cut.ensures)
