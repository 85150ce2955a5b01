-- What is promised is put first, then the vote.
use Rattle.std.proofs.Common.{[], ◌∷◌, ◌++◌, codes, decimal, ap, subst, ◌∙◌}
use Rattle.metering_model.specs.KeptText.{promised_number}
use Rattle.packet_text.specs.PacketText.{vote_fields}
use Rattle.packet_text.specs.Inner.Pieces.{Puts, barred}
use Rattle.packet_text.proofs.Pieces.{grown, puts_both, stayed}
use Rattle.log_text.proofs.WrittenLines.{ballots_are}
use Rattle.log_text.proofs.writing.put_ballots.Goals as goal

pub returns-in_default : goal.returns-in_default
returns-in_default c = stayed c.in_default.ensures.kept

pub returns-in_default-put_numbered : goal.returns-in_default-put_numbered
returns-in_default-put_numbered c = grown _ c.in-Ok.ensures.put (stayed c.in_default-put_numbered.ensures.kept)

pub returns : goal.returns
returns c =
    let r = c.put_vote.result in
    let old = c.args.text.now.items in
    let two = c.put_numbered-2.new.text.items in
    let new = c.put_vote.new.text.items in
    let a = c.args.acceptor.now in
    let n = c.promised_number-promised.result in
    let first = c.in-Ok.ensures.put ∙ ap (λ m. old ++ (codes "ballot|" ++ decimal m)) c.from.ensures in
    let promised = c.in-Ok-put_numbered.ensures.put ∙ ap (λ m. c.put_numbered.new.text.items ++ 124 ∷ decimal m) c.from-2.ensures in
    let vote = subst (λ v. Puts r two new (barred (vote_fields v) ++ 10 ∷ [])) c.vote.ensures c.put_vote.ensures in
    subst (Puts r old new) (ballots_are c.args.period a n (c.promised_number-promised.ensures ∙ ap promised_number c.promised.ensures))
    (puts_both r old _ new (codes "ballot|" ++ decimal c.args.period) _ first (puts_both r _ two new (124 ∷ decimal n) _ promised vote))
