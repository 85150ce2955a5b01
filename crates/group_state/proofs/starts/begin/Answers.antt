use Rattle.std.proofs.Common.{◌≡◌, ◌++◌, ◌∷◌, [], length, map, ap, ap₂, arith}
use Rattle.std.proofs.lemmas.List.{map-append, length-map}
use Rattle.metering_model.specs.World.{Prepare, Started}
use Rattle.group_node.specs.Packets.{packet_of}
use Rattle.group_state.proofs.starts.begin.Goals as goal

pub returns-clause-ok : goal.returns-clause-ok
returns-clause-ok c =
    let before = c.args.packets.now.items in
    let kept = c.in_ok-reserve.ensures.items in
    let ballot = c.start-ballot.ensures.ballot in
    let has = c.reserve.new.self.ok.0 in
    let count = ap length kept in
    let number : c.len-packet.result ≡ length (map packet_of before) = omega (arith, has, count, length-map before packet_of) in
    record {
      node = rw ballot at c.start-ballot.ensures.state;
      packets = rw (c.push_reserved.ensures.items, kept, map-append) (ap (λ b. map packet_of before ++ Prepare c.args.period b ∷ []) ballot);
      tells = ap₂ (λ b k. Started b k) ballot number;
    }
