use Rattle.schedule_reader.proofs.ScheduleForms.{group_read}
use Rattle.schedule_reader.proofs.schedules.Preamble.read.Goals as goal

pub returns-clause-group : goal.returns-clause-group
returns-clause-group c =
    let at = group_read c.args.text.now _ c.in_ok-voters.ensures.group in
    (at.nodes.0, at.nodes.1, at.agents.0, at.agents.1)
