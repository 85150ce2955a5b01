use Rattle.std.proofs.Common.{[], ◌∷◌, ◌++◌, codes, decimal, sym, ap, ◌∙◌, append-nil}
use Rattle.packet_text.specs.Inner.Pieces.{barred}
use Rattle.packet_text.proofs.Pieces.{puts_both, puts_number, stayed}
use Rattle.packet_text.proofs.writing.put_ballot.Goals as goal

pub returns-in_default : goal.returns-in_default
returns-in_default c = stayed c.in_default.ensures.kept

pub returns : goal.returns
returns c =
    let old = c.args.text.now.items in
    let one = c.put_numbered.new.text.items in
    let word = c.args.word.now in
    let first = c.in-Ok.ensures.put ∙ ap (λ n. old ++ (word ++ decimal n)) (c.from.ensures ∙ c.number.ensures.value) in
    let ballot = ap (λ n. 124 ∷ decimal n) (c.from-2.ensures ∙ c.number-2.ensures) in
    puts_both c.put_numbered-2.result old one _ (word ++ decimal c.args.period) (barred (decimal c.args.ballot ∷ [])) first
    (puts_number c.put_numbered-2.result one _ (codes "|") _ c.from-2.result c.put_numbered-2.ensures.put c.put_numbered-2.ensures.kept (ballot ∙ sym (append-nil (124 ∷ decimal c.args.ballot))))
