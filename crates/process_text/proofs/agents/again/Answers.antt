use Rattle.std.proofs.Common.{ap, ◌∙◌}
use Rattle.packet_text.proofs.Pieces.{then_ok}
use Rattle.process_text.proofs.Told.{agent_gives}
use Rattle.process_text.proofs.agents.again.Goals as goal

pub returns : goal.returns
returns c =
    then_ok c.put_given.result _ _
    (agent_gives c.args.agent.now c.number.result c.args.seq c.journaled.result c.name.result.now c.args.text.now.items c.put_given.new.text.items
    c.journaled.ensures (c.name.ensures ∙ ap (λ g. g.name) c.group.ensures) c.number.ensures)
    c.put_given.ensures
