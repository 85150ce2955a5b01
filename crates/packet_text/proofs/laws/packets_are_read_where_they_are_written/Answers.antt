-- Reading answers a packet where the text is its text, and only there.
use Rattle.std.proofs.Common.{sym, ap, ◌∙◌}
use Rattle.std.proofs.lemmas.Option.{same_Some}
use Rattle.packet_text.specs.PacketText.{GroupPacket, packet_in}
use Rattle.packet_text.proofs.PacketLaws.{packet_read, packet_written}
use Rattle.packet_text.proofs.laws.packets_are_read_where_they_are_written.Goals as goal

pub returns-clause-back : goal.returns-clause-back
returns-clause-back c = packet_written

pub returns-clause-joined : goal.returns-clause-joined
returns-clause-joined c = packet_read

pub returns-clause-one : goal.returns-clause-one
returns-clause-one c = λ group other p q h g e.
    let same = same_Some {A = GroupPacket} (record { group = group; packet = p }) (record { group = other; packet = q }) (sym (packet_written group p h) ∙ (ap packet_in e ∙ packet_written other q g)) in
    (ap (λ r. r.group) same, ap (λ r. r.packet) same)
