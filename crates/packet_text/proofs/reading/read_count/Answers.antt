use Rattle.std.proofs.Common.{sym, ap, ◌∙◌}
use Rattle.period_cut.proofs.CutTexts.{at_some}
use Rattle.packet_text.specs.PacketText.{batch_packet_in}
use Rattle.packet_text.proofs.Fields.{lines_alone}
use Rattle.packet_text.proofs.reading.read_count.Goals as goal

pub returns-then-is_some : goal.returns-then-is_some
returns-then-is_some c = λ below.
    let more = at_some c.split_at_bar.result _ _ c.split_at_bar.ensures (sym c.is_some.ensures ∙ c.if-is_some.true) in
    ap (λ fs. batch_packet_in fs below) more.1 ∙ lines_alone more.0.0.now more.0.1.now below
