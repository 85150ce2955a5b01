use Rattle.std.proofs.Common.{◌∷◌, ◌++◌, codes, decimal, map, ap, ◌∙◌}
use Rattle.packet_text.specs.Inner.Pieces.{barred}
use Rattle.packet_text.proofs.Pieces.{puts_both, stayed}
use Rattle.packet_text.proofs.writing.put_accepted.Goals as goal

pub returns-in_default : goal.returns-in_default
returns-in_default c = stayed c.in_default.ensures.kept

pub returns : goal.returns
returns c =
    let old = c.args.text.now.items in
    let first = c.in-Ok.ensures.put ∙ ap (λ n. old ++ (codes "|accepted|" ++ decimal n)) c.from.ensures in
    puts_both c.put_proposal.result old c.put_numbered.new.text.items _ (codes "|accepted|" ++ decimal c.args.from)
    (barred (decimal c.args.period ∷ decimal c.args.ballot ∷ map decimal c.args.cut.now)) first c.put_proposal.ensures
