use Rattle.std.proofs.Common.{◌≡◌, true, ap, subst, sym, ◌∙◌, arith}
use Rattle.metering_model.specs.Deliveries.{Handled, handled}
use Rattle.metering_model.specs.Holding.{IsHolding}
use Rattle.metering_model.specs.Sheet.{Sheet}
use Rattle.metering_model.specs.Step.{kept_now}
use Rattle.metering_model.specs.World.{World}
use Rattle.node_kept.specs.Kept.{IsKept}
use Rattle.journal_rules.specs.Stores.{Stored}
use Rattle.process_laws.specs.LocalSteps.{bare_world, is_packet_of}
use Rattle.group_node.specs.Nodes.{NodeAmong}
use Rattle.group_node.specs.Packets.{packet_of, IsPacketAmong}
use Rattle.group_process.specs.Added.{AddsJust, increment_after}
use Rattle.group_process.specs.Inner.Likely.{HasLowVote, IsLikely, added_for}
use Rattle.group_process.specs.Selves.{IsGroup, NodeSelf, kept_of_node}
use Rattle.group_process.proofs.AddedLaws.{IsJust, adds_what_is_told}
use Rattle.group_process.proofs.PacketLaws.{packet_among}
use Rattle.group_process.proofs.nodes.NodeProcess.take_own.Goals as goal

pub handle-requires-clause-packet : goal.handle-requires-clause-packet
handle-requires-clause-packet c =
    let g = c.self.inside.group in
    let p = packet_of c.args.packet.now in
    let sizes : IsGroup g = c.sizes.ensures.within in
    let is = subst (λ (s : NodeSelf). is_packet_of s.group.voters s.group.agents p ≡ true) (sym c.self.view_is) c.requires in
    let nodes = sizes.nodes in
    let among = packet_among g.voters g.agents p sizes.voters (omega (arith, nodes)) is in
    subst (λ v. IsPacketAmong v c.self.inside.node.agents p) (sym c.self.invariant.0) (subst (λ a. IsPacketAmong g.voters a p) (sym c.self.invariant.1) among)

pub returns-in_default : goal.returns-in_default
returns-in_default c =
    let with : NodeAmong → NodeSelf = λ n. record { group = c.self.inside.group; number = c.self.inside.number; node = n.node } in
    record {
      group = ap (λ (s : NodeSelf). s.group) c.self.view_is;
      number = ap (λ (s : NodeSelf). s.number) c.self.view_is;
      handles = tt;
      adds = tt;
      told = tt;
      kept = ap with c.in_default.ensures.kept ∙ c.self.view_is;
    }

pub returns : goal.returns
returns c =
    let g = c.self.inside.group in
    let n = c.self.inside.node.node in
    let w : World = bare_world g in
    let p = packet_of c.args.packet.now in
    let x = c.added_by-likely.result in
    let sizes : IsGroup g = c.sizes.ensures.within in
    let nodes = sizes.nodes in
    let is = subst (λ (s : NodeSelf). is_packet_of s.group.voters s.group.agents p ≡ true) (sym c.self.view_is) c.requires in
    let likely = subst (λ (s : NodeSelf). IsLikely s.node p x) (sym c.self.view_is) c.added_by-likely.ensures.likely in
    let holding = subst IsHolding (ap (λ (s : Stored). s.batches) c.store.ensures) c.agents.ensures.stored.is_holding in
    let kept = subst (λ a. IsKept (record { agents = a; kept = n.kept })) c.self.invariant.1 c.voters.ensures.within.kept in
    let low = subst HasLowVote c.acceptor.ensures c.know_vote.ensures in
    let just = adds_what_is_told w c.self.inside.number n holding kept low g.voters p x sizes.voters (omega (arith, nodes)) is c.added_by-likely.ensures.parts likely in
    let base = c.base_month-base.ensures.value ∙ ap (λ (s : Sheet). s.base) (c.deref.ensures ∙ c.sheet.ensures) in
    let there = c.in-Ok.ensures.does.handles w (sym base) (sym c.self.invariant.1) (sym c.self.invariant.0) in
    let after = kept_now w c.handle.new.self.node in
    let told = subst (λ (h : Handled). IsJust (added_for x h.sends h.learns) (kept_now w n) (kept_now w h.node)) there just in
    let named = subst (λ y. IsJust y (kept_now w n) after) (sym c.added_for-added.ensures) told in
    record {
      group = ap (λ (s : NodeSelf). s.group) c.self.view_is;
      number = ap (λ (s : NodeSelf). s.number) c.self.view_is;
      handles = sym (ap (λ (s : NodeSelf). handled (bare_world s.group) s.number s.node p) c.self.view_is) ∙ there;
      adds = subst (λ (s : NodeSelf). AddsJust (kept_of_node s) after (increment_after c.added_for-added.result after)) c.self.view_is named.0;
      told = named.1;
      kept = tt;
    }
