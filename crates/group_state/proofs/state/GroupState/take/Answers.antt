use Rattle.std.proofs.Common.{◌≡◌, length, map, refl, ap, subst, sym, arith}
use Rattle.std.proofs.lemmas.List.{length-map}
use Rattle.std.proofs.lemmas.Result.{IfOk-from_err}
use Rattle.journal_rules.specs.Stores.{Stored}
use Rattle.metering_model.specs.World.{World}
use Rattle.group_node.specs.Packets.{packet_of}
use Rattle.group_state.specs.Inner.Members.{AreMembers}
use Rattle.group_state.proofs.Members.{kept_world, on_any_err, taken}
use Rattle.group_state.proofs.state.GroupState.take.Goals as goal

pub overflow_cast-packet : goal.overflow_cast-packet
overflow_cast-packet c =
    let room = c.requires.room in
    let most = ap (λ (w : World). w.room) c.self.view_is in
    let count = ap (λ (w : World). length w.packets) c.self.view_is in
    let size = length-map c.self.inside.packets.items packet_of in
    let has = c.self.inside.packets.ok.0 in
    omega (arith, room, most, count, size, has, c.len-packet.ensures)

pub keep_batch-requires : goal.keep_batch-requires
keep_batch-requires c =
    let agents = ap (λ (w : World). w.agents) c.self.view_is in
    omega (arith, agents, c.requires.agent)

pub invariant_of-self : goal.invariant_of-self
invariant_of-self c = subst (λ a. AreMembers c.self.inside.voters a c.self.inside.nodes.items) (sym (ap (λ (s : Stored). s.agents) c.in_err-keep_batch.ensures.journals_kept)) c.self.invariant

pub returns-in_err-keep_batch-clause-ok : goal.returns-in_err-keep_batch-clause-ok
returns-in_err-keep_batch-clause-ok c = IfOk-from_err _ _ c.from_residual.ensures.0

pub returns-in_err-keep_batch-clause-kept : goal.returns-in_err-keep_batch-clause-kept
returns-in_err-keep_batch-clause-kept c =
    let stores = c.in_err-keep_batch.ensures.journals_kept in
    let sent = ap (map packet_of) c.in_err-keep_batch.ensures.packets_kept in
    on_any_err _ (kept_world _ c.args.self.now _ _ _ _ c.self.view_is (ap (λ (s : Stored). s.agents) stores) (ap (λ (s : Stored). s.batches) stores) sent refl)

pub invariant_of-self-2 : goal.invariant_of-self-2
invariant_of-self-2 c = subst (λ a. AreMembers c.self.inside.voters a c.self.inside.nodes.items) (sym (ap (λ (s : Stored). s.agents) c.in_ok-keep_batch.ensures.journals)) c.self.invariant

pub returns-clause-ok : goal.returns-clause-ok
returns-clause-ok c =
    let stores = c.in_ok-keep_batch.ensures.journals in
    let size = length-map c.self.inside.packets.items packet_of in
    let has = c.self.inside.packets.ok.0 in
    let count : c.len-packet.result ≡ length (map packet_of c.self.inside.packets.items) = omega (arith, size, has, c.len-packet.ensures) in
    taken _ c.args.self.now _ c.len-packet.result _ _ _ c.self.view_is c.requires count (ap (λ (s : Stored). s.agents) stores) (ap (λ (s : Stored). s.batches) stores) c.in_ok-keep_batch.ensures.packets

pub returns-clause-kept : goal.returns-clause-kept
returns-clause-kept c = tt
