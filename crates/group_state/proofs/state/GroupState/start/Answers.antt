use Rattle.std.proofs.Common.{◌<◌, length, map, refl, arith, ap, subst, sym}
use Rattle.std.proofs.lemmas.List.{length-map}
use Rattle.std.proofs.lemmas.Result.{IfOk-from_err}
use Rattle.metering_model.specs.World.{World}
use Rattle.metering_model.specs.Step.{or_refused}
use Rattle.group_node.specs.Nodes.{NodeAmong}
use Rattle.group_node.specs.Packets.{packet_of}
use Rattle.group_events.specs.Replies.{reply_of}
use Rattle.group_state.specs.Inner.Allowed.{MayBegin}
use Rattle.group_state.proofs.Changes.{node_found, member_at, begun, nodes_in}
use Rattle.group_state.proofs.Members.{is_listed, kept_world, members_with, on_any_err, put_back}
use Rattle.group_state.proofs.state.GroupState.start.Goals as goal

pub begin-requires-clause-few : goal.begin-requires-clause-few
begin-requires-clause-few c =
    let may = c.in-Ok.ensures in
    let low = may.room in
    let room = ap (λ (w : World). w.room) c.self.view_is in
    let count = ap (λ (w : World). length w.packets) c.self.view_is in
    let size = length-map c.self.inside.packets.items packet_of in
    omega (arith, low, room, count, size)

pub begin-requires-clause-round : goal.begin-requires-clause-round
begin-requires-clause-round c =
    let same = ap (λ (w : World). w.nodes) c.self.view_is in
    let count = ap (λ (w : World). length w.nodes) c.self.view_is in
    let size = length-map c.self.inside.nodes.items (λ (n : NodeAmong). n.node) in
    let may = c.in-Ok.ensures in
    let low : c.args.node < length c.self.inside.nodes.items = omega (arith, may.node, count, size) in
    (may.works c.index_mut.result.now.node (node_found c.args.self.now c.self.inside.nodes.items c.args.node c.index_mut.result.now same low (rw (← c.from.ensures) c.index_mut.ensures.value))).2

pub returns-clause-ok : goal.returns-clause-ok
returns-clause-ok c =
    let may = c.in-Ok.ensures in
    let count = ap (λ (w : World). length w.nodes) c.self.view_is in
    let size = length-map c.self.inside.nodes.items (λ (n : NodeAmong). n.node) in
    let low : c.args.node < length c.self.inside.nodes.items = omega (arith, may.node, count, size) in
    let member = member_at _ _ c.args.node c.self.inside.nodes.items c.index_mut.result.now c.self.invariant.each low (rw (← c.from.ensures) c.index_mut.ensures.value) in
    let here = subst (λ (w : World). MayBegin w c.args.node c.in-Ok.period) (sym c.self.view_is) may in
    rw (← c.self.view_is)
    (begun _ c.args.node c.from.result c.in-Ok.period c.self.inside.nodes.items
    (map packet_of c.begin.new.packets.items) c.index_mut.result.now c.begin.new.node (reply_of c.in_ok-reply.reply) refl member.votes c.from.ensures low
    (rw (← c.from.ensures) c.index_mut.ensures.value) here c.in_ok-reply.ensures.ok)

pub returns-in-Err-clause-ok : goal.returns-in-Err-clause-ok
returns-in-Err-clause-ok c = sym (ap (or_refused c.args.self.now) c.in-Err.ensures)

pub returns-in-Err-clause-kept : goal.returns-in-Err-clause-kept
returns-in-Err-clause-kept c = tt

pub index_mut-requires : goal.index_mut-requires
index_mut-requires c =
    let low = is_listed c.args.self.now c.self.inside.nodes.items c.args.node (ap (λ (w : World). w.nodes) c.self.view_is) c.in-Ok.ensures.node in
    let has = c.self.inside.nodes.ok.0 in
    omega (arith, low, has, c.from.ensures)

pub begin-requires-clause-votes : goal.begin-requires-clause-votes
begin-requires-clause-votes c =
    let low = is_listed c.args.self.now c.self.inside.nodes.items c.args.node (ap (λ (w : World). w.nodes) c.self.view_is) c.in-Ok.ensures.node in
    let member = member_at _ _ c.from.result c.self.inside.nodes.items c.index_mut.result.now c.self.invariant.each (rw c.from.ensures low) c.index_mut.ensures.value in
    let voters = ap (λ (w : World). w.voters) c.self.view_is in
    let may = c.in-Ok.ensures.votes in
    omega (arith, may, voters, member.votes)

pub invariant_of-self : goal.invariant_of-self
invariant_of-self c =
    let low = is_listed c.args.self.now c.self.inside.nodes.items c.args.node (ap (λ (w : World). w.nodes) c.self.view_is) c.in-Ok.ensures.node in
    let same = c.in_err-reply.ensures.node_kept in
    members_with _ _ c.from.result c.self.inside.nodes.items c.index_mut.result.now c.begin.new.node c.self.invariant (rw c.from.ensures low) c.index_mut.ensures.value (ap (λ (n : NodeAmong). n.voters) same) (ap (λ (n : NodeAmong). n.agents) same)

pub returns-in_err-reply-clause-ok : goal.returns-in_err-reply-clause-ok
returns-in_err-reply-clause-ok c = IfOk-from_err _ _ c.from_residual.ensures.0

pub returns-in_err-reply-clause-kept : goal.returns-in_err-reply-clause-kept
returns-in_err-reply-clause-kept c =
    let sent = ap (map packet_of) c.in_err-reply.ensures.packets_kept in
    let standing = ap nodes_in (put_back _ c.from.result _ c.begin.new.node c.in_err-reply.ensures.node_kept c.index_mut.ensures.value) in
    on_any_err _ (kept_world _ c.args.self.now _ _ _ _ c.self.view_is refl refl sent standing)

pub invariant_of-self-2 : goal.invariant_of-self-2
invariant_of-self-2 c =
    let low = is_listed c.args.self.now c.self.inside.nodes.items c.args.node (ap (λ (w : World). w.nodes) c.self.view_is) c.in-Ok.ensures.node in
    let same = c.in_ok-reply.ensures.ok.node in
    members_with _ _ c.from.result c.self.inside.nodes.items c.index_mut.result.now c.begin.new.node c.self.invariant (rw c.from.ensures low) c.index_mut.ensures.value (ap (λ (n : NodeAmong). n.voters) same) (ap (λ (n : NodeAmong). n.agents) same)

pub returns-clause-kept : goal.returns-clause-kept
returns-clause-kept c = tt
