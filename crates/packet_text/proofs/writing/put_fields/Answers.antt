use Rattle.std.proofs.Common.{sym, subst}
use Rattle.group_node.specs.Packets.{packet_of}
use Rattle.packet_text.specs.PacketText.{packet_fields}
use Rattle.packet_text.specs.Inner.Pieces.{Puts, barred}
use Rattle.packet_text.proofs.writing.put_fields.Goals as goal

pub returns-in-Prepare : goal.returns-in-Prepare
returns-in-Prepare c = subst (λ p. Puts c.put_ballot.result c.args.text.now.items c.put_ballot.new.text.items (barred (packet_fields (packet_of p)))) (sym c.in-Prepare.is) c.put_ballot.ensures
