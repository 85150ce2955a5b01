-- What was read of a request, in the words of what is asked: with what stands below its line.
use Rattle.std.specs.Prelude.{ℕ, List}
use Rattle.metering_model.specs.World.{offer_of}
use Rattle.process_laws.specs.LocalSteps.{BeginBallot, ExportPeriod, TellKept, SendBatch, JournalBatch, SendAgain, TellJournal}
use Rattle.packet_text.specs.PacketText.{packet_in}
use Rattle.process_text.specs.Requests as model
use Rattle.process_text.specs.declared.requests.NodeRequest.{NodeRequest}
use Rattle.process_text.specs.declared.requests.NodeRequest.TheVariants as node
use Rattle.process_text.specs.declared.requests.AgentRequest.{AgentRequest}
use Rattle.process_text.specs.declared.requests.AgentRequest.TheVariants as agent

abbrev pub node_request_of : (below : List ℕ) → NodeRequest → model.NodeRequest
node_request_of below node.Packet = model.packet_request (packet_in below)
node_request_of below node.Begin = model.AsksNode BeginBallot
node_request_of below (node.Export period) = model.AsksNode (ExportPeriod period)
node_request_of below node.Keep = model.AsksNode TellKept
node_request_of below (node.Give a s) = model.AsksNode (SendBatch a s)
node_request_of below node.NoCommand = model.NoNodeCommand

abbrev pub agent_request_of : (below : List ℕ) → AgentRequest → model.AgentRequest
agent_request_of below agent.Journal = model.AsksAgent (JournalBatch (offer_of below))
agent_request_of below agent.Keep = model.AsksAgent TellJournal
agent_request_of below (agent.Again seq) = model.AsksAgent (SendAgain seq)
agent_request_of below agent.NoCommand = model.NoAgentCommand
