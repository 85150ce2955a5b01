use Rattle.std.proofs.Common.{◌≡◌, length, map, Some, None, refl, ap, arith}
use Rattle.std.proofs.lemmas.List.{map-append, length-map, append-nil}
use Rattle.std.proofs.lemmas.Result.{IfOk-from_err}
use Rattle.metering_model.specs.World.{Delivered}
use Rattle.group_node.specs.Packets.{packet_of}
use Rattle.group_state.proofs.Lookups.{found_at}
use Rattle.group_state.proofs.Members.{on_any_err}
use Rattle.group_state.proofs.deliveries.hand_over.Goals as goal

pub returns-in-Some-clause-ok : goal.returns-in-Some-clause-ok
returns-in-Some-clause-ok c =
    let has = c.reserve.new.self.ok.0 in
    let kept = c.reserve.ensures.items in
    let count = ap length kept in
    let size = length-map c.args.packets.now.items packet_of in
    let number : c.len-number.result ≡ length (map packet_of c.args.packets.now.items) = omega (arith, has, count, size) in
    record {
      packet = packet_of c.index.result.now;
      sends = Some (packet_of c.in-Some.answer);
      learns = c.in_ok-handled.handled.learns;
      was = found_at packet_of c.args.packets.now.items c.args.k c.index.result.now c.requires.sent.there (rw (← kept) c.index.ensures);
      does = rw c.in-Some.is at c.in_ok-handled.ensures.does;
      packets = rw (c.push_reserved.ensures.items, c.in-Some.answer-is, kept, map-append) refl;
      tells = ap (λ k. Delivered (Some k) c.in_ok-handled.handled.learns) number;
    }

pub returns-in-None-clause-ok : goal.returns-in-None-clause-ok
returns-in-None-clause-ok c =
    let kept = c.reserve.ensures.items in
    record {
      packet = packet_of c.index.result.now;
      sends = None;
      learns = c.in_ok-handled.handled.learns;
      was = found_at packet_of c.args.packets.now.items c.args.k c.index.result.now c.requires.sent.there (rw (← kept) c.index.ensures);
      does = rw c.in-None.is at c.in_ok-handled.ensures.does;
      packets = rw (kept, append-nil) refl;
      tells = refl;
    }

pub overflow_cast-number : goal.overflow_cast-number
overflow_cast-number c =
    let has = c.reserve.new.self.ok.0 in
    let count = ap length c.reserve.ensures.items in
    omega (arith, has, count, c.len-number.ensures, c.requires.few)

pub index-requires : goal.index-requires
index-requires c =
    let has = c.reserve.new.self.ok.0 in
    let count = ap length c.reserve.ensures.items in
    omega (arith, has, count, c.requires.sent.there)

pub handle-requires-clause-base : goal.handle-requires-clause-base
handle-requires-clause-base c = c.requires.base

pub handle-requires-clause-packet : goal.handle-requires-clause-packet
handle-requires-clause-packet c =
    c.requires.sent.among (packet_of c.index.result.now) (found_at packet_of c.args.packets.now.items c.args.k c.index.result.now c.requires.sent.there (rw (← c.reserve.ensures.items) c.index.ensures))

pub returns-in_err-reserve-clause-ok : goal.returns-in_err-reserve-clause-ok
returns-in_err-reserve-clause-ok c = IfOk-from_err _ _ c.from_residual.ensures.0

pub returns-in_err-reserve-clause-packets_kept : goal.returns-in_err-reserve-clause-packets_kept
returns-in_err-reserve-clause-packets_kept c = on_any_err _ c.reserve.ensures.items

pub returns-in_err-reserve-clause-node_kept : goal.returns-in_err-reserve-clause-node_kept
returns-in_err-reserve-clause-node_kept c = on_any_err _ refl

pub returns-in_err-handled-clause-ok : goal.returns-in_err-handled-clause-ok
returns-in_err-handled-clause-ok c = IfOk-from_err _ _ c.from_residual-in_err-handled.ensures.0

pub returns-in_err-handled-clause-packets_kept : goal.returns-in_err-handled-clause-packets_kept
returns-in_err-handled-clause-packets_kept c = on_any_err _ c.reserve.ensures.items

pub returns-in_err-handled-clause-node_kept : goal.returns-in_err-handled-clause-node_kept
returns-in_err-handled-clause-node_kept c = on_any_err _ c.in_err-handled.ensures.kept
