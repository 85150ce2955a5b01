use Rattle.std.proofs.Common.{[], ◌∷◌, ◌++◌, codes, subst}
use Rattle.group_node.specs.Packets.{packet_of}
use Rattle.packet_text.specs.PacketText.{packet_fields, text_below}
use Rattle.packet_text.specs.Inner.Pieces.{Puts, barred}
use Rattle.packet_text.proofs.Pieces.{grown, puts_both, stayed, whole_text}
use Rattle.packet_text.proofs.writing.put_whole.Goals as goal

pub returns-in_default : goal.returns-in_default
returns-in_default c = stayed c.in_default.ensures.items

pub returns-in_default-extend_from_slice : goal.returns-in_default-extend_from_slice
returns-in_default-extend_from_slice c = grown _ c.in-Ok.ensures.items (stayed c.in_default-extend_from_slice.ensures.items)

pub returns-in_default-put_fields : goal.returns-in_default-put_fields
returns-in_default-put_fields c = grown _ c.in-Ok.ensures.items (grown _ c.in-Ok-extend_from_slice.ensures.items c.in_default-put_fields.ensures)

pub returns-in_default-extend_from_slice-2 : goal.returns-in_default-extend_from_slice-2
returns-in_default-extend_from_slice-2 c =
    grown _ c.in-Ok.ensures.items (grown _ c.in-Ok-extend_from_slice.ensures.items (grown _ c.in-Ok-put_fields.ensures (stayed c.in_default-extend_from_slice-2.ensures.items)))

pub returns : goal.returns
returns c =
    let r = c.put_below.result in
    let new = c.put_below.new.text.items in
    let name = c.args.name.now in
    let fields = packet_fields (packet_of c.args.packet.now) in
    let below = text_below (packet_of c.args.packet.now) in
    let ended = puts_both r _ _ new (10 ∷ []) below c.in-Ok-extend_from_slice-2.ensures.items c.put_below.ensures in
    let behind = puts_both r _ _ new (barred fields) (10 ∷ below) c.in-Ok-put_fields.ensures ended in
    let named = puts_both r _ _ new name (barred fields ++ 10 ∷ below) c.in-Ok-extend_from_slice.ensures.items behind in
    subst (Puts r c.args.text.now.items new) (whole_text name below fields)
    (puts_both r _ _ new (codes "P1|") (name ++ (barred fields ++ 10 ∷ below)) c.in-Ok.ensures.items named)
