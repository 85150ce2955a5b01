use Rattle.std.proofs.Common.{Some, sym, ap, ◌∙◌}
use Rattle.group_node.specs.Packets.{packet_of}
use Rattle.packet_text.specs.Inner.Heads.{of_group}
use Rattle.packet_text.proofs.PacketLaws.{at_first_line, packet_read, stored_at_first_line}
use Rattle.packet_text.proofs.Fields.{of_parts}
use Rattle.packet_text.proofs.reading.read_packet.Goals as goal

pub returns-in-Ok : goal.returns-in-Ok
returns-in-Ok c =
    let text = c.args.text.now in
    let name = c.in-Some-read_head.head.name.now in
    let below = c.in-Some.below.now in
    let first = at_first_line text c.in-Some.line.now below c.in-Some.ensures in
    let is = first ∙ c.in-Some-read_head.ensures.read below ∙ ap (of_group name) c.in-Ok.ensures.read in
    let parts = ap Some (of_parts c.of.result name (packet_of c.in-Ok.packet) c.of.ensures.group c.of.ensures.packet) in
    record { read = parts ∙ sym is; limits = (packet_read text c.of.result (is ∙ sym parts)).1; want = tt }

pub returns-in-NoPacket : goal.returns-in-NoPacket
returns-in-NoPacket c =
    let name = c.in-Some-read_head.head.name.now in
    let below = c.in-Some.below.now in
    let first = at_first_line c.args.text.now c.in-Some.line.now below c.in-Some.ensures in
    let none = rw c.in-NoPacket.is at c.in-Err.ensures.read in
    record { read = sym (first ∙ c.in-Some-read_head.ensures.read below ∙ ap (of_group name) none); limits = tt; want = tt }

pub returns-in-NoMemory : goal.returns-in-NoMemory
returns-in-NoMemory c =
    let first = stored_at_first_line c.args.text.now c.in-Some.line.now c.in-Some.below.now c.in-Some.ensures in
    let word = rw c.in-NoMemory.is at c.in-Err.ensures.want in
    record { read = tt; limits = tt; want = first ∙ c.in-Some-read_head.ensures.stored ∙ word }
