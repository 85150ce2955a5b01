use Rattle.std.proofs.Common.{codes, sym, ap, subst, ◌∙◌}
use Rattle.std.specs.Option.{option_copied}
use Rattle.metering_model.specs.Ballot.{Vote}
use Rattle.packet_text.specs.PacketText.{vote_fields}
use Rattle.packet_text.specs.Inner.Pieces.{Puts, barred}
use Rattle.packet_text.proofs.Pieces.{puts_bytes, vote_bars}
use Rattle.packet_text.proofs.writing.put_vote.Goals as goal

pub returns-in-Some : goal.returns-in-Some
returns-in-Some c =
    let there = ap option_copied c.in-Some.is in
    let number = c.number.ensures ∙ ap (λ (v : Vote). v.ballot) c.vote.view_is in
    let entries = c.deref.ensures ∙ ap (λ (v : Vote). v.cut) c.vote.view_is in
    subst (Puts c.put_numbered_cut.result c.args.text.now.items c.put_numbered_cut.new.text.items)
    (vote_bars (option_copied c.args.vote) c.in-Some.vote.now c.number.result c.deref.result.now there number entries) c.put_numbered_cut.ensures

pub returns-in-None : goal.returns-in-None
returns-in-None c = puts_bytes c.extend_from_slice.result _ _ (codes "|0") _ c.extend_from_slice.ensures.items (ap (λ o. barred (vote_fields (option_copied o))) (sym c.in-None.is))
