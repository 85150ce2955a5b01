use Rattle.packet_text.proofs.Pieces.{then_ok}
use Rattle.process_text.proofs.Told.{node_begins}
use Rattle.process_text.proofs.nodes.begin.Goals as goal

pub returns-in-Ok : goal.returns-in-Ok
returns-in-Ok c =
    then_ok c.put_started.result _ _
    (node_begins c.args.node.now c.begin.new.self c.in-Ok.begun c.args.text.now.items c.put_started.new.text.items c.in-Ok.ensures.does c.in-Ok.ensures.adds)
    c.put_started.ensures
