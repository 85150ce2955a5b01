use Rattle.std.proofs.Common.{◌∷◌, sym, ap, ◌∙◌}
use Rattle.period_cut.proofs.CutTexts.{at_some}
use Rattle.packet_text.specs.PacketText.{prepare_in}
use Rattle.packet_text.proofs.Fields.{ballot_last}
use Rattle.packet_text.proofs.reading.read_prepare.Goals as goal

pub returns-then-is_some : goal.returns-then-is_some
returns-then-is_some c =
    let period = c.in-Some.period.now in
    let more = at_some c.split_at_bar-2.result _ _ c.split_at_bar-2.ensures (sym c.is_some.ensures ∙ c.if-is_some.true) in
    sym (ap prepare_in (c.in-Some.ensures ∙ ap (λ fs. period ∷ fs) more.1) ∙ ballot_last period more.0.0.now more.0.1.now)
