use Rattle.std.proofs.Common.{sym, ◌∙◌}
use Rattle.group_node.specs.Packets.{packet_of}
use Rattle.group_state.proofs.Changes.{among_here, full_for_answer, may_in_silence, sends_here}
use Rattle.group_state.proofs.state.GroupState.delivery_refusal.Goals as goal

pub sends-requires : goal.sends-requires
sends-requires c = among_here c.args.self.now c.args.packet (packet_of c.in-Some.what.now) c.in-Some-node.taker.now c.requires (sym c.in-Some.ensures) c.in-Some-node.ensures.member

pub returns-else-sends : goal.returns-else-sends
returns-else-sends c =
    may_in_silence c.args.self.now c.args.packet c.args.node (packet_of c.in-Some.what.now) c.in-Some-node.taker.now.node (sym c.in-Some.ensures) (sym c.in-Some-node.ensures.node)
    (sends_here c.args.self.now c.args.node (packet_of c.in-Some.what.now) c.in-Some-node.taker.now c.sends.result c.in-Some-node.ensures.member.votes c.sends.ensures ∙ c.if-sends.false)

pub returns-then-sends : goal.returns-then-sends
returns-then-sends c =
    full_for_answer c.args.self.now c.args.packet c.args.node (packet_of c.in-Some.what.now) c.in-Some-node.taker.now.node (sym c.in-Some.ensures) (sym c.in-Some-node.ensures.node)
    (sends_here c.args.self.now c.args.node (packet_of c.in-Some.what.now) c.in-Some-node.taker.now c.sends.result c.in-Some-node.ensures.member.votes c.sends.ensures ∙ c.if-sends.true)
    (sym c.has_room.ensures ∙ c.if-has_room.false)
