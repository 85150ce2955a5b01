use Rattle.std.proofs.Common.{ap, ◌∙◌}
use Rattle.packet_text.proofs.Pieces.{then_ok}
use Rattle.process_text.proofs.Told.{node_gives}
use Rattle.process_text.proofs.nodes.give.Goals as goal

pub returns : goal.returns
returns c =
    then_ok c.put_given.result _ _
    (node_gives c.args.node.now c.args.agent c.args.seq c.held.result c.name.result.now c.args.text.now.items c.put_given.new.text.items
    c.held.ensures (c.name.ensures ∙ ap (λ g. g.name) c.group.ensures))
    c.put_given.ensures
