-- Who belongs to a group.
use Rattle.std.specs.Prelude.{◌+◌, ◌<◌, ◌≤◌}
use Rattle.metering_model.specs.Sheet.{Sheet, Issuer}
use Rattle.log_text.specs.LogText.{Who, NodeOf, AgentOf, LogHead}
use Rattle.process_laws.specs.LocalSteps as laws

-- the group that a head line, a sheet and an issuer tell
abbrev pub group_said : LogHead → Sheet → Issuer → laws.Group
group_said h sheet issuer = record { name = h.group; voters = h.voters; observers = h.observers; agents = h.agents; sheet = sheet; issuer = issuer }

-- the node, numbered from 0, or the agent, numbered from 1, is one of the group
abbrev pub IsAmong : laws.Group → Who → Type 0
IsAmong g (NodeOf i) = i < g.voters + g.observers
IsAmong g (AgentOf a) = (1 ≤ a) × (a ≤ g.agents)
