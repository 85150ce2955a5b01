-- A promise is put with its own ballot.
use Rattle.std.proofs.Common.{[], ◌∷◌, ◌++◌, codes, decimal, ap, subst, ◌∙◌}
use Rattle.std.specs.Option.{option_copied}
use Rattle.packet_text.specs.PacketText.{vote_fields}
use Rattle.packet_text.specs.Inner.Pieces.{Puts, barred}
use Rattle.packet_text.proofs.Pieces.{bars_both, grown, puts_both, stayed}
use Rattle.packet_text.proofs.writing.put_promise.Goals as goal

pub returns-in_default : goal.returns-in_default
returns-in_default c = stayed c.in_default.ensures.kept

pub returns-in_default-put_ballot : goal.returns-in_default-put_ballot
returns-in_default-put_ballot c = grown _ c.in-Ok.ensures.put c.in_default-put_ballot.ensures

pub returns : goal.returns
returns c =
    let old = c.args.text.now.items in
    let one = c.put_numbered.new.text.items in
    let two = c.put_ballot.new.text.items in
    let new = c.put_vote.new.text.items in
    let numbers = decimal c.args.period ∷ decimal c.args.ballot ∷ [] in
    let fields = vote_fields (option_copied c.args.vote) in
    let sender = codes "|promise|" ++ decimal c.args.from in
    let first = c.in-Ok.ensures.put ∙ ap (λ n. old ++ (codes "|promise|" ++ decimal n)) c.from.ensures in
    puts_both c.put_vote.result old one new sender (barred (decimal c.args.period ∷ decimal c.args.ballot ∷ fields)) first
    (subst (Puts c.put_vote.result one new) (bars_both numbers fields) (puts_both c.put_vote.result one two new (barred numbers) (barred fields) c.in-Ok-put_ballot.ensures c.put_vote.ensures))
