use Rattle.group_node.specs.Packets.{packet_of}
use Rattle.packet_text.proofs.Pieces.{then_ok}
use Rattle.process_text.proofs.Told.{node_takes}
use Rattle.process_text.proofs.nodes.take_packet.Goals as goal

pub returns-in-Ok-Some : goal.returns-in-Ok-Some
returns-in-Ok-Some c =
    then_ok c.put_taken.result _ _
    (node_takes c.args.node.now c.take.new.self c.args.handed.now.group c.group.result.now c.args.handed.now.packet (packet_of c.packet.result.now) (packet_of c.packet-in-Ok-Some.result.now)
    c.in-Ok-Some.field-0 c.in-Ok-Some.taken c.args.text.now.items c.put_taken.new.text.items
    c.group.ensures c.packet.ensures c.packet-in-Ok-Some.ensures c.in-Ok-Some.field-0-is c.in-Ok-Some.ensures.does c.in-Ok-Some.ensures.adds)
    c.put_taken.ensures
