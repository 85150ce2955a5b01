-- What happens to the processes of a group, as one list, and the events of a world that come to the same. Machines have no common order: it is
-- any order that keeps each process's own, and in which a packet is sent before it is taken.
use Rattle.std.specs.Prelude.{◌≡◌, ◌≢◌, ◌⊎◌, ◌↔◌, ℕ, ◌+◌, ◌==◌, ◌<◌, ◌≤◌, true, if◌then◌else◌, List, [], ◌∷◌, ◌++◌, length, replicate, All, Option, Some, None, Ok, slice_get, slice_set}
use Rattle.std.specs.List.{Contains}
use Rattle.metering_model.specs.Batch.{Batch}
use Rattle.metering_model.specs.Holding.{Holding, held}
use Rattle.metering_model.specs.JournalRules.{next_seq}
use Rattle.metering_model.specs.KeptText.{kept_text}
use Rattle.metering_model.specs.World.{Packet, CarriesBatch, Kept, Node, World, Event, Journal, Deliver, Start, Restart, Export, Keep, Reply, Journaled, Delivered, Started, Restarted, Exported, KeptText, Refused, current_period, new_kept, opening_with, wake}
use Rattle.metering_model.specs.declared.Refusal.TheVariants.{Missing, NoAgent, NoNode, WorldFull}
use Rattle.metering_model.specs.Step.{batch_of, play, step}
use Rattle.group_laws.specs.Headline.{HoldsAfter}
use Rattle.group_laws.specs.OneAgent.{batches_of}
use Rattle.process_laws.specs.LocalSteps.{Group, NodeCommand, TakePacket, BeginBallot, ExportPeriod, TellKept, SendBatch, AgentCommand, JournalBatch}
use Rattle.process_laws.specs.LocalSteps.{SendAgain, TellJournal, OfModel, Foreign, HasTaken, HasBegun, HasJournaled, HasExported, KeptIs, HasSent}
use Rattle.process_laws.specs.LocalSteps.{NodeWentOn, AgentWentOn, Answer, saying, refusing, is_of_group, kept_among, journal_kept, NodeDone}
use Rattle.process_laws.specs.LocalSteps.{node_does, node_goes_on, AgentDone, agent_does, agent_goes_on}

-- ---- what happens

-- All processes of a group: its nodes by number, the journal of each agent, and every packet that one of them sent.
pub record Processes : Type 0 where
  pub nodes : List Node
  pub journals : (agent : ℕ) → Holding
  pub sent : List Packet

-- before anything happened
abbrev pub begun : Group → Processes
begun g = record { nodes = replicate (g.voters + g.observers) (wake new_kept); journals = λ agent. []; sent = [] }

-- A process does what it is asked; or it begins, or goes on after it was stopped, whenever that was, with what is handed to it as what it stored.
-- An act is here once what it changed is stored; one that changed nothing of what is kept, once something of it left the process, and else it may be
-- left out. So nothing of an act leaves before what that act, and each act of its process above it, changed is stored.
pub data Act : Type 0 where
  NodeDoes : (node : ℕ) → NodeCommand → Act
  NodeGoesOn : (node : ℕ) (stored : Kept) → Act
  AgentDoes : (agent : ℕ) → AgentCommand → Act
  AgentGoesOn : (agent : ℕ) (stored : Holding) → Act

-- What an act is answered, and the processes behind it. The answer, and the packet in it, may never have left: a process that stopped behind
-- storing its act has answered here all the same.
pub record Acted : Type 0 where
  pub answer : Answer
  pub after : Processes

abbrev pub sent_with : Option Packet → List Packet → List Packet
sent_with None sent = sent
sent_with (Some p) sent = sent ++ p ∷ []

abbrev pub with_node_done : ℕ → NodeDone → Processes → Acted
with_node_done i d s = record { answer = d.answer; after = record s { nodes = slice_set s.nodes i d.node; sent = sent_with d.answer.sends s.sent } }

abbrev pub with_agent_done : ℕ → AgentDone → Processes → Acted
with_agent_done a d s = record {
  answer = d.answer;
  after = record s { journals = λ agent. if agent == a then d.journal else s.journals agent; sent = sent_with d.answer.sends s.sent };
}

-- what becomes of a node's act; there is none without a node of that number
abbrev pub by_node : ℕ → Processes → (Node → NodeDone) → Acted
by_node i s does = elim (slice_get s.nodes i) [
  | Some n ↦ with_node_done i (does n) s
  | None ↦ record { answer = refusing (OfModel NoNode); after = s }
]

abbrev pub acted : Group → Processes → Act → Acted
acted g s (NodeDoes i command) = by_node i s (λ n. node_does g i n command)
acted g s (NodeGoesOn i stored) = by_node i s (λ n. node_goes_on stored)
acted g s (AgentDoes a command) = with_agent_done a (agent_does g a (s.journals a) command) s
acted g s (AgentGoesOn a stored) = with_agent_done a (agent_goes_on a stored) s

-- the answers to all acts in turn, and the processes behind them
abbrev pub answers : Group → Processes → List Act → List Answer
answers g s [] = []
answers g s (a ∷ acts) = (acted g s a).answer ∷ answers g (acted g s a).after acts

abbrev pub after : Group → Processes → List Act → Processes
after g s [] = s
after g s (a ∷ acts) = after g (acted g s a).after acts

-- ---- which lists are histories

-- A packet of this group was sent before, by whichever process, the one that takes it too. One that is none of it, by its name or its numbers, may
-- come from anywhere.
abbrev pub WasSent : Group → Processes → NodeCommand → Type 0
WasSent g s (TakePacket name p) = is_of_group g name p ≡ true → Contains s.sent p
WasSent g s BeginBallot = Unit {0}
WasSent g s (ExportPeriod period) = Unit {0}
WasSent g s TellKept = Unit {0}
WasSent g s (SendBatch agent seq) = Unit {0}

-- The process is one of the group, is handed no packet of it that nobody sent, and goes on with what it keeps: with the newest that it stored.
abbrev pub MayAct : Group → Processes → Act → Type 0
MayAct g s (NodeDoes i command) = (i < length s.nodes) × WasSent g s command
MayAct g s (NodeGoesOn i stored) = (n : Node) × (slice_get s.nodes i ≡ Some n) × (n.kept ≡ stored)
MayAct g s (AgentDoes a command) = (1 ≤ a) × (a ≤ g.agents)
MayAct g s (AgentGoesOn a stored) = (1 ≤ a) × (a ≤ g.agents) × (s.journals a ≡ stored)

-- Each act may be done where it stands. A packet may be handed to any node, once, often or never, and in any order; but not before it was sent. Of
-- each number there is one process at a time: another one would go on from what the first one has left behind.
abbrev pub IsHistory : Group → Processes → List Act → Type 0
IsHistory g s [] = Unit {0}
IsHistory g s (a ∷ acts) = MayAct g s a × IsHistory g (acted g s a).after acts

-- ---- the events of a world

-- the packet of that number is the one that a process sent, or there is neither
abbrev pub IsSentAs : World → Option ℕ → Option Packet → Type 0
IsSentAs w None None = Unit {0}
IsSentAs w None (Some p) = ⊥
IsSentAs w (Some k) None = ⊥
IsSentAs w (Some k) (Some p) = slice_get w.packets k ≡ Some p

-- a node went on: its period and its round are those of the node in this world
abbrev pub WentOnAs : World → Act → Answer → Type 0
WentOnAs w (NodeDoes i command) x = ⊥
WentOnAs w (NodeGoesOn i stored) x = (n : Node) × (slice_get w.nodes i ≡ Some n) × (x ≡ saying (NodeWentOn (current_period n) n.kept.round))
WentOnAs w (AgentDoes a command) x = ⊥
WentOnAs w (AgentGoesOn a stored) x = ⊥

-- The answer to an act tells what the world replies, where this is the world behind: the reply's words without a packet's number, and in its place
-- the packet that has this number.
abbrev pub Tells : World → Act → Reply → Answer → Type 0
Tells w a (Journaled k) x = (b : Batch) × (x ≡ record { words = HasJournaled b.seq; sends = Some (CarriesBatch b) }) × (slice_get w.packets k ≡ Some (CarriesBatch b))
Tells w a (Delivered sent learned) x = (x.words ≡ HasTaken learned) × IsSentAs w sent x.sends
Tells w a (Started ballot k) x = (x.words ≡ HasBegun ballot) × IsSentAs w (Some k) x.sends
Tells w a Restarted x = WentOnAs w a x
Tells w a (Exported s) x = x ≡ saying (HasExported s)
Tells w a (KeptText text) x = x ≡ saying (KeptIs text)
Tells w a (Refused refusal) x = x ≡ refusing (OfModel refusal)

abbrev pub IsNodeEvent : World → ℕ → NodeCommand → Event → Type 0
IsNodeEvent w i (TakePacket name p) e = (k : ℕ) × (slice_get w.packets k ≡ Some p) × (e ≡ Deliver k i)
IsNodeEvent w i BeginBallot e = e ≡ Start i
IsNodeEvent w i (ExportPeriod period) e = e ≡ Export i period
IsNodeEvent w i TellKept e = e ≡ Keep i
IsNodeEvent w i (SendBatch agent seq) e = ⊥

abbrev pub IsAgentEvent : AgentCommand → Event → Type 0
IsAgentEvent (JournalBatch offer) e = e ≡ Journal offer
IsAgentEvent (SendAgain seq) e = ⊥
IsAgentEvent TellJournal e = ⊥

-- the event of this world that the act is
abbrev pub IsEventOf : World → Act → Event → Type 0
IsEventOf w (NodeDoes i command) e = IsNodeEvent w i command e
IsEventOf w (NodeGoesOn i stored) e = e ≡ Restart i
IsEventOf w (AgentDoes a command) e = IsAgentEvent command e
IsEventOf w (AgentGoesOn a stored) e = ⊥

-- the batch that is held there, which was sent in this world, is sent once more; or none is held there
abbrev pub SendsOld : World → Holding → (agent seq : ℕ) → Answer → Type 0
SendsOld w h agent seq x =
    ((b : Batch) × (held h agent seq ≡ Some b) × (x ≡ record { words = HasSent; sends = Some (CarriesBatch b) }) × Contains w.packets (CarriesBatch b))
    ⊎ ((held h agent seq ≡ None) × (x ≡ refusing (OfModel (Missing agent seq))))

-- What a node answers without an event of the world: a packet that was not sent in it, under the group's name or another, is foreign; and a batch is
-- sent once more.
abbrev pub IsNoNodeEvent : Group → World → ℕ → NodeCommand → Answer → Type 0
IsNoNodeEvent g w i (TakePacket name p) x = (name ≡ g.name → Contains w.packets p → ⊥) × (x ≡ refusing Foreign)
IsNoNodeEvent g w i BeginBallot x = ⊥
IsNoNodeEvent g w i (ExportPeriod period) x = ⊥
IsNoNodeEvent g w i TellKept x = ⊥
IsNoNodeEvent g w i (SendBatch agent seq) x = (n : Node) × (slice_get w.nodes i ≡ Some n) × SendsOld w n.kept.holding agent seq x

-- An agent is offered another one's batch, sends one of its own once more, or tells its journal, which is what this world's journals have of it.
abbrev pub IsNoAgentEvent : Group → World → ℕ → AgentCommand → Answer → Type 0
IsNoAgentEvent g w a (JournalBatch offer) x = (b : Batch) × (batch_of offer ≡ Ok b) × (b.agent ≢ a) × (x ≡ refusing (OfModel NoAgent))
IsNoAgentEvent g w a (SendAgain seq) x = SendsOld w w.journals a seq x
IsNoAgentEvent g w a TellJournal x = x ≡ saying (KeptIs (kept_text (kept_among g (journal_kept (batches_of a w.journals)))))

abbrev pub IsNoEvent : Group → World → Act → Answer → Type 0
IsNoEvent g w (NodeDoes i command) x = IsNoNodeEvent g w i command x
IsNoEvent g w (NodeGoesOn i stored) x = ⊥
IsNoEvent g w (AgentDoes a command) x = IsNoAgentEvent g w a command x
IsNoEvent g w (AgentGoesOn a stored) x = x ≡ saying (AgentWentOn (next_seq w.journals a))

-- The events, done by the world in turn, come to the acts with their answers: each act is the next event, whose reply its answer tells, or is none of
-- them.
abbrev pub AreMatched : Group → World → List Act → List Answer → List Event → Type 0
AreMatched g w [] [] [] = Unit {0}
AreMatched g w [] [] (e ∷ es) = ⊥
AreMatched g w [] (x ∷ xs) es = ⊥
AreMatched g w (a ∷ acts) [] es = ⊥
AreMatched g w (a ∷ acts) (x ∷ xs) [] = IsNoEvent g w a x × AreMatched g w acts xs []
AreMatched g w (a ∷ acts) (x ∷ xs) (e ∷ es) =
    (IsEventOf w a e × Tells (step w e).1 a (step w e).0 x × AreMatched g (step w e).1 acts xs es)
    ⊎ (IsNoEvent g w a x × AreMatched g w acts xs (e ∷ es))

-- the world of the group, before any event, with room for so many packets
abbrev pub opened : Group → ℕ → World
opened g room = opening_with room g.voters g.observers g.agents g.sheet g.issuer

-- The world is what the processes have come to: the nodes are theirs, its journals have of each agent what that one has, and what was sent is the
-- same.
pub record IsLeftBy (s : Processes) (w : World) : Type 0 where
  pub nodes : s.nodes ≡ w.nodes
  pub journals : (agent : ℕ) → s.journals agent ≡ batches_of agent w.journals
  pub sent : (p : Packet) → Contains s.sent p ↔ Contains w.packets p

-- There are events of a world with room for all that is sent, so that it refuses none for being full, which come to what the processes did, in the
-- same order; and the headline holds of them.
pub record IsDoneByWorld (g : Group) (acts : List Act) : Type 0 where
  pub room : ℕ
  pub events : List Event
  pub matched : AreMatched g (opened g room) acts (answers g (begun g) acts) events
  pub not_full : All (λ r. r ≢ Refused WorldFull) (play (opened g room) events).0
  pub left : IsLeftBy (after g (begun g) acts) (play (opened g room) events).1
  pub headline : HoldsAfter g.voters g.observers g.agents g.sheet g.issuer events (play (opened g room) events).0 (play (opened g room) events).1

-- In one world the acts come to events, and with more acts behind them to more events behind those; each time the world has the
-- processes' nodes, journals and packets.
pub record GoesOnInWorld (g : Group) (acts more : List Act) : Type 0 where
  pub room : ℕ
  pub events : List Event
  pub later : List Event
  pub before : AreMatched g (opened g room) acts (answers g (begun g) acts) events
  pub all : AreMatched g (opened g room) (acts ++ more) (answers g (begun g) (acts ++ more)) (events ++ later)
  pub left_before : IsLeftBy (after g (begun g) acts) (play (opened g room) events).1
  pub left : IsLeftBy (after g (begun g) (acts ++ more)) (play (opened g room) (events ++ later)).1
