use Rattle.std.proofs.Common.{◌++◌, decimal, map, ap, ◌∙◌}
use Rattle.packet_text.specs.Inner.Pieces.{barred}
use Rattle.packet_text.proofs.Pieces.{grown, puts_both, puts_cut, stayed}
use Rattle.packet_text.proofs.writing.put_numbered_cut.Goals as goal

pub returns-in_default : goal.returns-in_default
returns-in_default c = stayed c.in_default.ensures.kept

pub returns-in_default-push : goal.returns-in_default-push
returns-in_default-push c = grown _ c.in-Ok.ensures.put (stayed c.in_default-push.ensures.items)

pub returns : goal.returns
returns c =
    let old = c.args.text.now.items in
    let one = c.put_numbered.new.text.items in
    let word = c.args.word.now in
    let first = c.in-Ok.ensures.put ∙ ap (λ n. old ++ (word ++ decimal n)) c.from.ensures in
    puts_both c.put.result old one _ (word ++ decimal c.args.number) (barred (map decimal c.args.cut.now)) first
    (puts_cut c.put.result one _ _ c.args.cut.now c.agents.ensures.within.agents_from c.in-Ok-push.ensures.items c.put.ensures.put c.put.ensures.kept)
