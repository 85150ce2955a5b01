use Rattle.std.proofs.Common.{◌<◌, length, map, refl, arith, ap, subst, ◌∙◌, sym}
use Rattle.std.specs.Prelude.{slice_get}
use Rattle.std.proofs.lemmas.List.{length-map}
use Rattle.std.proofs.lemmas.Result.{IfOk-from_err}
use Rattle.metering_model.specs.Sheet.{Sheet}
use Rattle.metering_model.specs.World.{World}
use Rattle.metering_model.specs.Step.{or_refused}
use Rattle.group_node.specs.Nodes.{NodeAmong}
use Rattle.group_node.specs.Packets.{packet_of}
use Rattle.group_events.specs.Replies.{reply_of}
use Rattle.group_state.specs.Inner.Allowed.{MayDeliver}
use Rattle.group_state.proofs.Reaching.{limits_here}
use Rattle.group_state.proofs.Changes.{among_here, delivered, member_here, nodes_in}
use Rattle.group_state.proofs.Members.{is_listed, kept_world, members_with, on_any_err, put_back}
use Rattle.group_state.proofs.state.GroupState.deliver.Goals as goal

pub hand_over-requires-clause-few : goal.hand_over-requires-clause-few
hand_over-requires-clause-few c =
    let room = (limits_here c.args.self.now c.requires.reached).fits in
    let count = ap (λ (w : World). length w.packets) c.self.view_is in
    let size = length-map c.self.inside.packets.items packet_of in
    omega (arith, room, count, size)

pub hand_over-requires-clause-sent : goal.hand_over-requires-clause-sent
hand_over-requires-clause-sent c =
    let may = c.in_default.ensures in
    let count = ap (λ (w : World). length w.nodes) c.self.view_is in
    let size = length-map c.self.inside.nodes.items (λ (n : NodeAmong). n.node) in
    let low : c.args.node < length c.self.inside.nodes.items = omega (arith, may.node, count, size) in
    let sent_count = ap (λ (w : World). length w.packets) c.self.view_is in
    let sent_size = length-map c.self.inside.packets.items packet_of in
    let member = member_here c.args.self.now _ _ c.args.node c.self.inside.nodes.items c.index_mut.result.now (ap (λ (w : World). w.voters) c.self.view_is) (ap (λ (w : World). w.agents) c.self.view_is) c.self.invariant low (rw (← c.from.ensures) c.index_mut.ensures.value) in
    record {
      there = omega (arith, may.packet, sent_count, sent_size);
      among = λ q sent. among_here c.args.self.now c.args.packet q c.index_mut.result.now c.requires.reached (ap (λ (w : World). slice_get w.packets c.args.packet) (sym c.self.view_is) ∙ sent) member;
    }

pub returns-clause-ok : goal.returns-clause-ok
returns-clause-ok c =
    let may = c.in_default.ensures in
    let count = ap (λ (w : World). length w.nodes) c.self.view_is in
    let size = length-map c.self.inside.nodes.items (λ (n : NodeAmong). n.node) in
    let low : c.args.node < length c.self.inside.nodes.items = omega (arith, may.node, count, size) in
    let here = subst (λ (w : World). MayDeliver w c.args.packet c.args.node) (sym c.self.view_is) may in
    let month = sym (c.base_month-base.ensures.value ∙ ap (λ (s : Sheet). s.base) c.deref.ensures) in
    rw (← c.self.view_is)
    (delivered _ _ _ c.base_month-base.result c.args.packet c.args.node c.from.result c.self.inside.nodes.items (map packet_of c.hand_over.new.packets.items) c.index_mut.result.now c.hand_over.new.node (reply_of c.in_ok-reply.reply) refl month
    refl refl c.self.invariant c.from.ensures low (rw (← c.from.ensures) c.index_mut.ensures.value) here c.in_ok-reply.ensures.ok)

pub delivery_refusal-requires : goal.delivery_refusal-requires
delivery_refusal-requires c = c.requires.reached

pub returns-in-Some-clause-ok : goal.returns-in-Some-clause-ok
returns-in-Some-clause-ok c = sym (ap (or_refused c.args.self.now) c.in-Some.ensures)

pub returns-in-Some-clause-kept : goal.returns-in-Some-clause-kept
returns-in-Some-clause-kept c = tt

pub index_mut-requires : goal.index_mut-requires
index_mut-requires c =
    let low = is_listed c.args.self.now c.self.inside.nodes.items c.args.node (ap (λ (w : World). w.nodes) c.self.view_is) c.in_default.ensures.node in
    let has = c.self.inside.nodes.ok.0 in
    omega (arith, low, has, c.from.ensures)

pub hand_over-requires-clause-base : goal.hand_over-requires-clause-base
hand_over-requires-clause-base c = c.base_month-base.ensures.range

pub invariant_of-self : goal.invariant_of-self
invariant_of-self c =
    let low = is_listed c.args.self.now c.self.inside.nodes.items c.args.node (ap (λ (w : World). w.nodes) c.self.view_is) c.in_default.ensures.node in
    let same = c.in_err-reply.ensures.node_kept in
    members_with _ _ c.from.result c.self.inside.nodes.items c.index_mut.result.now c.hand_over.new.node c.self.invariant (rw c.from.ensures low) c.index_mut.ensures.value (ap (λ (n : NodeAmong). n.voters) same) (ap (λ (n : NodeAmong). n.agents) same)

pub returns-in_err-reply-clause-ok : goal.returns-in_err-reply-clause-ok
returns-in_err-reply-clause-ok c = IfOk-from_err _ _ c.from_residual.ensures.0

pub returns-in_err-reply-clause-kept : goal.returns-in_err-reply-clause-kept
returns-in_err-reply-clause-kept c =
    let sent = ap (map packet_of) c.in_err-reply.ensures.packets_kept in
    let standing = ap nodes_in (put_back _ c.from.result _ c.hand_over.new.node c.in_err-reply.ensures.node_kept c.index_mut.ensures.value) in
    on_any_err _ (kept_world _ c.args.self.now _ _ _ _ c.self.view_is refl refl sent standing)

pub invariant_of-self-2 : goal.invariant_of-self-2
invariant_of-self-2 c =
    let low = is_listed c.args.self.now c.self.inside.nodes.items c.args.node (ap (λ (w : World). w.nodes) c.self.view_is) c.in_default.ensures.node in
    let does = c.in_ok-reply.ensures.ok.does in
    members_with _ _ c.from.result c.self.inside.nodes.items c.index_mut.result.now c.hand_over.new.node c.self.invariant (rw c.from.ensures low) c.index_mut.ensures.value does.voters does.agents

pub returns-clause-kept : goal.returns-clause-kept
returns-clause-kept c = tt
