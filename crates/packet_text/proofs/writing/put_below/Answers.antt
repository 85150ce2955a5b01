use Rattle.std.proofs.Common.{◌≡◌, [], ◌++◌, sym, ap, ◌∙◌, append-nil, refl}
use Rattle.std.specs.Arc.{arc_value}
use Rattle.group_node.specs.declared.packets.Packet.{Packet}
use Rattle.group_node.specs.declared.packets.Packet.TheVariants as packet
use Rattle.group_node.specs.Packets.{packet_of}
use Rattle.packet_text.specs.PacketText.{text_below}
use Rattle.packet_text.proofs.Pieces.{bytes_are_text, puts_bytes}
use Rattle.packet_text.proofs.writing.put_below.Goals as goal

-- nothing stands below another packet
none_below : (p : Packet) → ((b : _) → p ≡ packet.Batch b → ⊥) → text_below (packet_of p) ≡ []
none_below (packet.Batch b) other = absurd (other b refl)
none_below (packet.Prepare period ballot) other = refl
none_below (packet.Promise from period ballot vote) other = refl
none_below (packet.Accept period ballot cut) other = refl
none_below (packet.Accepted from period ballot cut) other = refl
none_below (packet.Decided period cut) other = refl

pub returns-in-Batch : goal.returns-in-Batch
returns-in-Batch c =
    let is_batch = bytes_are_text (arc_value c.in-Batch.batch) (rw c.deref.ensures at c.bytes.ensures.batch) in
    puts_bytes c.extend_from_slice.result c.args.text.now.items _ c.bytes.result.now (text_below (packet_of c.args.packet.now)) c.extend_from_slice.ensures.items
    (c.bytes.ensures.bytes ∙ c.deref.ensures ∙ is_batch ∙ sym (ap (λ p. text_below (packet_of p)) c.in-Batch.is))

pub returns-in_default : goal.returns-in_default
returns-in_default c =
    let old = c.args.text.now.items in
    sym (append-nil old) ∙ ap (λ t. old ++ t) (sym (none_below c.args.packet.now c.in_default.not-Batch))
