use Rattle.std.proofs.Common.{refl}
use Rattle.group_node.specs.Packets.{packet_of}
use Rattle.group_process.proofs.Answering.{foreign_told, packet_of_group, taken_told}
use Rattle.group_process.proofs.nodes.NodeProcess.take.Goals as goal

pub returns-then-not-has_sent : goal.returns-then-not-has_sent
returns-then-not-has_sent c =
    let n = c.args.self.now in
    record {
      does = record {
        does = foreign_told n.group _ c.args.name.now (packet_of c.args.packet.now) c.has_sent.result c.group.ensures c.has_sent.ensures n.number n.node c.if-not-has_sent.true;
        group = refl;
        number = refl;
      };
      adds = tt;
      told = tt;
      kept = tt;
    }

pub take_own-requires : goal.take_own-requires
take_own-requires c =
    packet_of_group c.args.self.now.group _ c.args.name.now (packet_of c.args.packet.now) c.has_sent.result c.group.ensures c.has_sent.ensures c.if-not-has_sent.false

pub returns-in-Ok : goal.returns-in-Ok
returns-in-Ok c =
    let n = c.args.self.now in
    let done = c.in-Ok.ensures in
    record {
      does = record {
        does = taken_told n.group _ c.args.name.now (packet_of c.args.packet.now) c.has_sent.result c.group.ensures c.has_sent.ensures n.number n.node _ c.if-not-has_sent.false done.handles;
        group = done.group;
        number = done.number;
      };
      adds = done.adds;
      told = done.told;
      kept = tt;
    }

pub returns-in-Err : goal.returns-in-Err
returns-in-Err c = record { does = tt; adds = tt; told = tt; kept = c.in-Err.ensures.kept }
