-- Whose a log is.
use Rattle.log_text.specs.LogText as model
use Rattle.log_text.specs.declared.heads.Who.{Who}
use Rattle.log_text.specs.declared.heads.Who.TheVariants.{Node, Agent}

abbrev pub who_of : Who → model.Who
who_of (Node i) = model.NodeOf i
who_of (Agent a) = model.AgentOf a
