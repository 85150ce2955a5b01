-- What a process has of its own, within its group.
use Rattle.std.specs.Prelude.{ℕ, ◌+◌, ◌<◌, ◌≤◌}
use Rattle.metering_model.specs.Limits.{most_agents, most_nodes}
use Rattle.metering_model.specs.Holding.{Holding}
use Rattle.metering_model.specs.KeptText.{KeptAmong}
use Rattle.metering_model.specs.World.{Node}
use Rattle.process_laws.specs.LocalSteps.{Group, journal_kept, kept_among}

-- the sizes that a group may have
pub record IsGroup (g : Group) : Type 0 where
  pub voters : 1 ≤ g.voters
  pub nodes : g.voters + g.observers ≤ most_nodes
  pub agents : (1 ≤ g.agents) × (g.agents ≤ most_agents)

-- a node, its number and its group
pub record NodeSelf : Type 0 where
  pub group : Group
  pub number : ℕ
  pub node : Node

-- an agent, numbered from 1, and its journal
pub record AgentSelf : Type 0 where
  pub group : Group
  pub number : ℕ
  pub journal : Holding

-- what a node keeps, among its group's agents
abbrev pub kept_of_node : NodeSelf → KeptAmong
kept_of_node n = kept_among n.group n.node.kept

-- what an agent keeps
abbrev pub kept_of_agent : AgentSelf → KeptAmong
kept_of_agent a = kept_among a.group (journal_kept a.journal)

-- the node is one of its group
abbrev pub IsInGroup : NodeSelf → Type 0
IsInGroup n = n.number < n.group.voters + n.group.observers

-- the agent is one of its group
pub record IsAgentInGroup (a : AgentSelf) : Type 0 where
  pub number : (1 ≤ a.number) × (a.number ≤ a.group.agents)
