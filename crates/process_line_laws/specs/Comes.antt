-- What a history of hosts comes to, in the words of process_laws; and what files it shows.
use Rattle.std.specs.Prelude.{◌≡◌, ◌⊎◌, ℕ, ◌+◌, ◌<◌, ◌≤◌, List, [], ◌∷◌, ◌++◌, length, map, All, Option, Some, Ok, slice_get, codes}
use Rattle.std.specs.List.{Contains}
use Rattle.std.specs.Option.{option_map}
use Rattle.metering_model.specs.Cut.{last_of, zero_cut}
use Rattle.metering_model.specs.Dates.{IsPeriod}
use Rattle.metering_model.specs.Holding.{Holding, up_to}
use Rattle.metering_model.specs.KeptText.{KeptAmong}
use Rattle.metering_model.specs.Transcript.{with_number}
use Rattle.metering_model.specs.World.{Kept, Snapshot}
use Rattle.group_laws.specs.OneAgent.{batches_of}
use Rattle.process_laws.specs.LocalSteps.{Group, NodeCommand, TellKept, AgentCommand, TellJournal, Answer, Foreign, HasExported, saying}
use Rattle.process_laws.specs.Histories.{Processes, Act, NodeDoes, NodeGoesOn, AgentDoes, AgentGoesOn, IsHistory, after, answers, begun}
use Rattle.packet_text.specs.PacketText.{HasPacketText, packet_text}
use Rattle.log_text.specs.LogText.{AgentOf, NodeOf, Who, log_in, most_log_bytes}
use Rattle.group_process.specs.Selves.{AgentSelf, kept_of_agent, kept_of_node}
use Rattle.process_text.specs.declared.processes.Process.{Process}
use Rattle.process_text.specs.declared.processes.Process.TheVariants as process
use Rattle.process_text.specs.Answers.{process_refusal_text, refused_text, words_text}
use Rattle.process_text.specs.Requests.{AsksAgent, AsksNode, NoAgentCommand, NoNodeCommand, NoPacket, agent_request, node_request}
use Rattle.process_line_laws.specs.Told.{texts_sent, told_in}
use Rattle.process_line_laws.specs.Hosts.{Asks, GoesOn, HostAct, Machines, Shortens, all_done, begun_machines, head_of, said_by}

-- ---- each act and its answer

-- The act of that process which the lines ask for. Of one that goes on it is left open here with what: it is what is kept.
abbrev pub IsActOf : HostAct → Act → Type 0
IsActOf (Asks (NodeOf i) asked next said) a = (c : NodeCommand) × (node_request asked.first asked.below ≡ AsksNode c) × (a ≡ NodeDoes i c)
IsActOf (Asks (AgentOf i) asked next said) a = (c : AgentCommand) × (agent_request asked.first asked.below ≡ AsksAgent c) ×
    (a ≡ AgentDoes i c)
IsActOf (GoesOn (NodeOf i) text first) a = (stored : Kept) × (a ≡ NodeGoesOn i stored)
IsActOf (GoesOn (AgentOf i) text first) a = (stored : Holding) × (a ≡ AgentGoesOn i stored)
IsActOf (Shortens (NodeOf i) next said) a = a ≡ NodeDoes i TellKept
IsActOf (Shortens (AgentOf i) next said) a = a ≡ AgentDoes i TellJournal

-- The lines ask for no act: they are no packet, or no command, and what is said is that alone.
abbrev pub AsksNothing : HostAct → Type 0
AsksNothing (Asks (NodeOf i) asked next said) =
    ((node_request asked.first asked.below ≡ NoPacket) × (said ≡ refused_text (process_refusal_text Foreign)))
    ⊎ ((node_request asked.first asked.below ≡ NoNodeCommand) × (said ≡ refused_text (codes "L6")))
AsksNothing (Asks (AgentOf i) asked next said) = (agent_request asked.first asked.below ≡ NoAgentCommand) ×
    (said ≡ refused_text (codes "L6"))
AsksNothing (GoesOn w text first) = ⊥
AsksNothing (Shortens w next said) = ⊥

-- A host that reads what is said finds just the answer: its words with what stands below them, and the packet that it sends.
pub record SaysJust (name : List ℕ) (said : List ℕ) (x : Answer) : Type 0 where
  pub words : (told_in said).last ≡ words_text x.words
  pub sends : (told_in said).sent ≡ texts_sent name x.sends

-- Each act of a host is the next of these acts, and what is said is its answer; or it is none of them.
abbrev pub AreTold : (name : List ℕ) → List HostAct → List Act → List Answer → Type 0
AreTold name [] [] [] = Unit {0}
AreTold name [] [] (x ∷ xs) = ⊥
AreTold name [] (a ∷ acts) xs = ⊥
AreTold name (h ∷ hs) [] xs = AsksNothing h × AreTold name hs [] xs
AreTold name (h ∷ hs) (a ∷ acts) [] = ⊥
AreTold name (h ∷ hs) (a ∷ acts) (x ∷ xs) =
    (IsActOf h a × SaysJust name (said_by h) x × AreTold name hs acts xs) ⊎ (AsksNothing h × AreTold name hs (a ∷ acts) (x ∷ xs))

-- ---- what there is then

-- the node, or the agent, that processes have come to, as a process by itself
abbrev pub process_there : Group → Processes → Who → Option Process
process_there g s (NodeOf i) = option_map (λ n. process.Node (record { group = g; number = i; node = n })) (slice_get s.nodes i)
process_there g s (AgentOf a) = Some (process.Agent (record { group = g; number = a; journal = s.journals a }))

abbrev pub kept_by : Process → KeptAmong
kept_by (process.Node n) = kept_of_node n
kept_by (process.Agent a) = kept_of_agent a

-- Each process that was begun is what they have come to, its log is read as what it keeps, unless it has got too long, and the texts that
-- were told to be sent are those of the packets that were sent, which can be read back.
pub record StandFor (g : Group) (m : Machines) (s : Processes) : Type 0 where
  pub running : (w : Who) (p : Process) → (m.machine w).runs ≡ Some p → process_there g s w ≡ Some p
  pub logs : (w : Who) (p : Process) → (m.machine w).runs ≡ Some p → length (m.machine w).log ≤ most_log_bytes
      → log_in (m.machine w).log ≡ Ok (record { head = head_of g w; kept = kept_by p })
  pub sent : m.sent ≡ map (packet_text g.name) s.sent
  pub texts : (w : Who) (p : Process) → (m.machine w).runs ≡ Some p → All (HasPacketText g.name) s.sent

-- the acts to which those of the hosts come
pub record ComeToHistory (g : Group) (hosts : List HostAct) : Type 0 where
  pub acts : List Act
  pub is_history : IsHistory g (begun g) acts
  pub told : AreTold g.name hosts acts (answers g (begun g) acts)
  pub stand : StandFor g (all_done g (begun_machines g) hosts) (after g (begun g) acts)

-- ---- files

-- The last line of an answer, with what stands below it, is a file of that period, as a host sees it: the line begins with these words.
pub record IsFileOf (period : ℕ) (last : List ℕ) : Type 0 where
  pub is_period : IsPeriod period
  pub rest : List ℕ
  pub words : last ≡ with_number (codes "exported period ") period ++ codes " lines " ++ rest

-- The snapshot whose file these bytes are: one that the acts export, under the group's sheet and issuer; the first month's begins at nothing.
-- The bytes alone do not tell it: other batches, at other sequences, can come to the same rows.
pub record IsMadeOf (g : Group) (acts : List Act) (period : ℕ) (last : List ℕ) (s : Snapshot) : Type 0 where
  pub has : Contains (answers g (begun g) acts) (saying (HasExported s))
  pub bytes : last ≡ words_text (HasExported s)
  pub same : s.period ≡ period
  pub sheet : s.sheet ≡ g.sheet
  pub issuer : s.issuer ≡ g.issuer
  pub opens : period ≡ 0 → s.from ≡ zero_cut g.agents

-- What two files are made of, in such a history: of one period of the same; no batch is between the cuts of both unless they are of one
-- period, and a period's cuts begin where those of the one before it end.
pub record AreMadeOf (g : Group) (acts : List Act) (period other : ℕ) (one two : List ℕ) : Type 0 where
  pub s : Snapshot
  pub t : Snapshot
  pub first : IsMadeOf g acts period one s
  pub second : IsMadeOf g acts other two t
  pub alike : period ≡ other → s ≡ t
  pub once : (agent seq : ℕ) → last_of s.from agent < seq → seq ≤ last_of s.to agent → last_of t.from agent < seq → seq ≤ last_of t.to agent
      → period ≡ other
  pub follows : period + 1 ≡ other → t.from ≡ s.to

-- Of each agent whose process was begun a file is made of just the batches of the journal that this process has come to, up to the period's
-- cut.
pub record IsOfJournals (g : Group) (hosts : List HostAct) (acts : List Act) (period : ℕ) (last : List ℕ) : Type 0 where
  pub s : Snapshot
  pub made_of : IsMadeOf g acts period last s
  pub batches : (agent : ℕ) (a : AgentSelf) → ((all_done g (begun_machines g) hosts).machine (AgentOf agent)).runs ≡ Some (process.Agent a)
      → batches_of agent s.batches ≡ up_to s.to a.journal
