-- What a process answers, as lines of text: first what its log gets, then what it sends, and last the line that tells what came of it,
-- so that who reads an answer knows where it ends.
use Rattle.std.specs.Prelude.{◌≡◌, ℕ, ◌+◌, ◌%◌, List, [], ◌++◌, Option, Some, None, codes, decimal}
use Rattle.metering_model.specs.World.{Packet, CarriesBatch, Prepare, Promise, Accept, Accepted, Decided, Exported, KeptText, Node, current_period}
use Rattle.metering_model.specs.Holding.{Holding}
use Rattle.metering_model.specs.JournalRules.{next_seq}
use Rattle.metering_model.specs.Transcript.{if_any, line, refusal_text, reply_text, with_number}
use Rattle.process_laws.specs.LocalSteps as model
use Rattle.process_laws.specs.LocalSteps.{Answer, ProcessRefusal, OfModel, Foreign, Unfit, Words, HasTaken, HasBegun, HasJournaled, HasExported, KeptIs, HasSent, NodeWentOn, AgentWentOn, RefusedFor}
use Rattle.packet_text.specs.PacketText.{packet_text, lines_of_batch}
use Rattle.log_text.specs.LogText.{Increment, increment_text, lines_of_increment, section_line}
use Rattle.group_process.specs.Selves.{NodeSelf, AgentSelf, kept_of_node, kept_of_agent}
use Rattle.group_process.specs.Added.{AddsJust}
use Rattle.group_process.specs.Answers.{Does}
use Rattle.group_process.specs.Journals.{DoesAsAgent}
use Rattle.process_text.specs.declared.processes.Process.{Process}
use Rattle.process_text.specs.declared.processes.Process.TheVariants as process
use Rattle.process_text.specs.Requests.{node_request, agent_request, NodeRequest, AsksNode, NoPacket, NoNodeCommand, AgentRequest, AsksAgent, NoAgentCommand}

-- what a log gets, below a line that says how many lines this has
abbrev pub added_text : Option Increment → List ℕ
added_text None = []
added_text (Some i) = section_line (codes "kept ") (lines_of_increment i) ++ increment_text i

-- ---- what is sent

-- a packet's own line, and those of its batch
abbrev pub lines_of_packet : Packet → ℕ
lines_of_packet (CarriesBatch b) = 1 + lines_of_batch b
lines_of_packet (Prepare period ballot) = 1
lines_of_packet (Promise from period ballot vote) = 1
lines_of_packet (Accept period ballot cut) = 1
lines_of_packet (Accepted from period ballot cut) = 1
lines_of_packet (Decided period cut) = 1

-- the voter that began the ballot which a packet asks for, where it does
abbrev pub asker : (voters : ℕ) → Packet → Option ℕ
asker voters (CarriesBatch b) = None
asker voters (Prepare period ballot) = Some (ballot % voters)
asker voters (Promise from period ballot vote) = None
asker voters (Accept period ballot cut) = Some (ballot % voters)
asker voters (Accepted from period ballot cut) = None
asker voters (Decided period cut) = None

-- The one node that a packet is meant for, which is advice: a promise goes to who asked for it, a cut that had been learned to who asked
-- in its period. All else is for all.
abbrev pub addressee : (voters : ℕ) → (taken sent : Packet) → Option ℕ
addressee voters taken (CarriesBatch b) = None
addressee voters taken (Prepare period ballot) = None
addressee voters taken (Promise from period ballot vote) = asker voters taken
addressee voters taken (Accept period ballot cut) = None
addressee voters taken (Accepted from period ballot cut) = None
addressee voters taken (Decided period cut) = asker voters taken

-- of what comes of a command: of one that hands no packet over all is for all
abbrev pub addressee_of : (voters : ℕ) → model.NodeCommand → Packet → Option ℕ
addressee_of voters (model.TakePacket name taken) sent = addressee voters taken sent
addressee_of voters model.BeginBallot sent = None
addressee_of voters (model.ExportPeriod period) sent = None
addressee_of voters model.TellKept sent = None
addressee_of voters (model.SendBatch agent seq) sent = None

abbrev pub addressee_text : Option ℕ → List ℕ
addressee_text None = codes "all"
addressee_text (Some node) = decimal node

-- a packet of the group of that name, below a line that says for whom it is and how many lines it has
abbrev pub packet_sent_text : (name : List ℕ) → Option ℕ → Packet → List ℕ
packet_sent_text name to p = section_line (codes "send " ++ addressee_text to ++ codes " ") (lines_of_packet p) ++ packet_text name p

abbrev pub sent_text : (name : List ℕ) → (to : Packet → Option ℕ) → Option Packet → List ℕ
sent_text name to None = []
sent_text name to (Some p) = packet_sent_text name (to p) p

-- ---- what came of it

abbrev pub process_refusal_text : ProcessRefusal → List ℕ
process_refusal_text (OfModel refusal) = refusal_text refusal
process_refusal_text Foreign = codes "G16"
process_refusal_text Unfit = codes "G17"

abbrev pub refused_text : List ℕ → List ℕ
refused_text why = line (codes "refused " ++ why)

-- the last line of an answer, and what it says to stand below it
abbrev pub words_text : Words → List ℕ
words_text (HasTaken learned) = line (codes "delivered" ++ if_any (codes " learned ") learned)
words_text (HasBegun ballot) = line (with_number (codes "started ballot ") ballot)
words_text (HasJournaled seq) = line (with_number (codes "journaled seq ") seq)
words_text (HasExported s) = reply_text (Exported s)
words_text (KeptIs text) = reply_text (KeptText text)
words_text HasSent = line (codes "sent")
words_text (NodeWentOn period round) = line (with_number (codes "begun period ") period ++ with_number (codes " round ") round)
words_text (AgentWentOn seq) = line (with_number (codes "begun seq ") seq)
words_text (RefusedFor why) = refused_text (process_refusal_text why)

abbrev pub answer_text : (name : List ℕ) → (to : Packet → Option ℕ) → Option Increment → Answer → List ℕ
answer_text name to added a = added_text added ++ sent_text name to a.sends ++ words_text a.words

-- ---- what is written of a request

-- That is written where a node does what a command asks: what it answers and becomes is the model's, and its log gets what it keeps more
-- than before.
pub record TellsNode (command : model.NodeCommand) (old new : NodeSelf) (said : List ℕ) : Type 0 where
  pub answer : Answer
  pub does : Does command old new answer
  pub added : Option Increment
  pub adds : AddsJust (kept_of_node old) (kept_of_node new) added
  pub text : said ≡ answer_text old.group.name (addressee_of old.group.voters command) added answer

-- what is no packet is refused as one of no such group, and what is no command changes nothing either
abbrev pub AnswersNode : NodeRequest → (old new : NodeSelf) → (said : List ℕ) → Type 0
AnswersNode (AsksNode command) old new said = TellsNode command old new said
AnswersNode NoPacket old new said = (new ≡ old) × (said ≡ refused_text (process_refusal_text Foreign))
AnswersNode NoNodeCommand old new said = (new ≡ old) × (said ≡ refused_text (codes "L6"))

-- the same of an agent, whose packets are for all nodes
pub record TellsAgent (command : model.AgentCommand) (old new : AgentSelf) (said : List ℕ) : Type 0 where
  pub answer : Answer
  pub does : DoesAsAgent command old new answer
  pub added : Option Increment
  pub adds : AddsJust (kept_of_agent old) (kept_of_agent new) added
  pub text : said ≡ answer_text old.group.name (λ sent. None) added answer

abbrev pub AnswersAgent : AgentRequest → (old new : AgentSelf) → (said : List ℕ) → Type 0
AnswersAgent (AsksAgent command) old new said = TellsAgent command old new said
AnswersAgent NoAgentCommand old new said = (new ≡ old) × (said ≡ refused_text (codes "L6"))

-- what is written first
abbrev pub node_begun_text : Node → List ℕ
node_begun_text n = words_text (NodeWentOn (current_period n) n.kept.round)

abbrev pub agent_begun_text : (agent : ℕ) → Holding → List ℕ
agent_begun_text agent journal = words_text (AgentWentOn (next_seq journal agent))

-- ---- of either

-- What is written where a process is asked by a line and the lines below it.
abbrev pub Answers : (old : Process) → (line below : List ℕ) → (new : Process) → (said : List ℕ) → Type 0
Answers (process.Node old) line below (process.Node new) said = AnswersNode (node_request line below) old new said
Answers (process.Node old) line below (process.Agent new) said = ⊥
Answers (process.Agent old) line below (process.Node new) said = ⊥
Answers (process.Agent old) line below (process.Agent new) said = AnswersAgent (agent_request line below) old new said

abbrev pub begun_text : Process → List ℕ
begun_text (process.Node n) = node_begun_text n.node
begun_text (process.Agent a) = agent_begun_text a.number a.journal
