-- What the hosts of all processes of a group do, in lines: they begin processes, ask them, and read what these answer. So here are the
-- premises that a host has to keep, each told of texts that it has in hand.
use Rattle.std.specs.Prelude.{◌≡◌, ℕ, ◌==◌, Bool, true, false, if◌then◌else◌, List, [], ◌∷◌, ◌++◌, length, drop, Option, Some, None, codes}
use Rattle.std.specs.List.{Contains}
use Rattle.metering_model.specs.KeptText.{KeptAmong}
use Rattle.process_laws.specs.LocalSteps.{Group, is_of_group}
use Rattle.packet_text.specs.PacketText.{GroupPacket, packet_in}
use Rattle.log_text.specs.LogText.{AgentOf, LogHead, NodeOf, ReadLog, Who, head_text}
use Rattle.process_text.specs.declared.processes.Process.{Process}
use Rattle.process_text.specs.declared.processes.Process.TheVariants as process
use Rattle.process_text.specs.Answers.{begun_text}
use Rattle.process_player.specs.declared.heads.ProcessKind.{ProcessKind}
use Rattle.process_player.specs.declared.heads.ProcessKind.TheVariants as kind
use Rattle.process_player.specs.Starts.{Begins, HasLog, HasNone, IsStored}
use Rattle.process_player.specs.Runs.{Asked, Does}
use Rattle.process_line_laws.specs.Told.{told_in}

-- ---- what there is

-- What a host has of one node or one agent: the process that was begun last, if any was, and its log, as it is stored.
pub record Machine : Type 0 where
  pub runs : Option Process
  pub log : List ℕ

-- Of each node and each agent there is one machine, and so one process at a time. Of all of them together: each text that an answer told to
-- send.
pub record Machines : Type 0 where
  pub machine : Who → Machine
  pub sent : List (List ℕ)

-- the head of its log, which is the second line that a process is begun with
abbrev pub head_of : Group → Who → LogHead
head_of g w = record { group = g.name; who = w; voters = g.voters; observers = g.observers; agents = g.agents }

-- Before anything happened nothing is stored but head lines: a host writes one into each new log before anything else.
abbrev pub begun_machines : Group → Machines
begun_machines g = record { machine = λ w. record { runs = None; log = head_text (head_of g w) }; sent = [] }

-- ---- what happens

pub data HostAct : Type 0 where
  -- The process is asked that, says this, and is another then. An act is here once its host has read what is for the log, to the last line,
  -- and has stored it; where there is nothing for the log, once something of the answer left the process, and else it may be left out. The
  -- rest of what is said may never have left, and the process may have stopped.
  Asks : Who → Asked → (next : Process) → (said : List ℕ) → HostAct
  -- a process is begun with that text, the first one or the next, whenever the one before was stopped
  GoesOn : Who → (text : List ℕ) → (first : Process) → HostAct
  -- The process is asked `keep`, and what it says to be kept takes the place of all that its log says, before it is asked anything else.
  Shortens : Who → (next : Process) → (said : List ℕ) → HostAct

-- what is said, as it would be written
abbrev pub said_by : HostAct → List ℕ
said_by (Asks w asked next said) = said
said_by (GoesOn w text first) = begun_text first
said_by (Shortens w next said) = said

abbrev pub is_who : Who → Who → Bool
is_who (NodeOf i) (NodeOf j) = i == j
is_who (NodeOf i) (AgentOf b) = false
is_who (AgentOf a) (NodeOf j) = false
is_who (AgentOf a) (AgentOf b) = a == b

abbrev pub with_machine : Who → Machine → (Who → Machine) → Who → Machine
with_machine w new machine other = if is_who other w then new else machine other

-- the head line, a line `kept n`, and the n lines below `kept lines n`
abbrev pub short_log : LogHead → (last : List ℕ) → List ℕ
short_log h last = head_text h ++ codes "kept " ++ drop (length (codes "kept lines ")) last

-- What is told to be kept is appended to the log, and not the line above it that counts the lines. What is told to be sent counts as sent
-- from here on, also where it is lost on its way.
abbrev pub done : Group → Machines → HostAct → Machines
done g m (Asks w asked next said) = record {
  machine = with_machine w (record { runs = Some next; log = (m.machine w).log ++ (told_in said).kept }) m.machine;
  sent = m.sent ++ (told_in said).sent;
}
done g m (GoesOn w text first) = record m { machine = with_machine w (record { runs = Some first; log = (m.machine w).log }) m.machine }
done g m (Shortens w next said) = record m {
  machine = with_machine w (record { runs = Some next; log = short_log (head_of g w) (told_in said).last }) m.machine;
}

abbrev pub all_done : Group → Machines → List HostAct → Machines
all_done g m [] = m
all_done g m (h ∷ hs) = all_done g (done g m h) hs

-- ---- which acts may be done

-- A text that reads as a packet of this group, by its name and its numbers, is one that an answer told to send. Any other may come from
-- anywhere.
abbrev pub WasSent : Group → (sent : List (List ℕ)) → (text : List ℕ) → Type 0
WasSent g sent text = (p : GroupPacket) → packet_in text ≡ Some p → is_of_group g p.group p.packet ≡ true → Contains sent text

-- packets are handed to nodes alone: an agent takes none
abbrev pub IsHanded : Group → (sent : List (List ℕ)) → Process → Asked → Type 0
IsHanded g sent (process.Node n) asked = WasSent g sent asked.below
IsHanded g sent (process.Agent a) asked = Unit {0}

pub record MayAsk (g : Group) (m : Machines) (w : Who) (asked : Asked) (next : Process) (said : List ℕ) : Type 0 where
  -- it is the process that was begun last there
  pub old : Process
  pub runs : (m.machine w).runs ≡ Some old
  -- it is asked one command, and answers: of a program that is what `process_player` proves
  pub does : Does old asked next said
  -- a packet is handed on as it was told, and none that nobody sent
  pub handed : IsHanded g m.sent old asked

abbrev pub kind_of : Who → ProcessKind
kind_of (NodeOf i) = kind.Node
kind_of (AgentOf a) = kind.Agent

-- Behind `log n` stands the log as it is stored, to the last line. With `new` a process is begun where nothing is stored but the head line.
abbrev pub IsThatLog : {own : ReadLog} {stored : List ℕ} {kept : KeptAmong} → (log : List ℕ) → IsStored own stored kept → Type 0
IsThatLog {own} log HasNone = log ≡ head_text own.head
IsThatLog log (HasLog said stored kept n section counted read) = log ≡ stored

pub record MayGoOn (g : Group) (m : Machines) (w : Who) (text : List ℕ) (first : Process) : Type 0 where
  -- the text begins it: of a program that is what `process_player` proves
  pub begins : Begins (kind_of w) text first
  -- its second line is the head line of its log, and so all processes are begun with one name and the same numbers
  pub head : begins.preamble.own.head ≡ head_of g w
  -- and with the same sheet and issuer
  pub sheet : begins.preamble.sheet ≡ g.sheet
  pub issuer : begins.preamble.issuer ≡ g.issuer
  -- it goes on with the log that is stored there, and with no older one
  pub log : IsThatLog (m.machine w).log begins.is_stored

-- what asks for all that is kept
abbrev pub keep : Asked
keep = record { first = codes "keep"; below = [] }

pub record MayShorten (m : Machines) (w : Who) (next : Process) (said : List ℕ) : Type 0 where
  pub old : Process
  pub runs : (m.machine w).runs ≡ Some old
  pub does : Does old keep next said

abbrev pub MayDo : Group → Machines → HostAct → Type 0
MayDo g m (Asks w asked next said) = MayAsk g m w asked next said
MayDo g m (GoesOn w text first) = MayGoOn g m w text first
MayDo g m (Shortens w next said) = MayShorten m w next said

-- Each act may be done where it stands. Machines have no common order: it is any that keeps each one's own, and in which a packet is told
-- to be sent before it is handed on; once, often or never, to any node, in any order.
abbrev pub IsHostHistory : Group → Machines → List HostAct → Type 0
IsHostHistory g m [] = Unit {0}
IsHostHistory g m (h ∷ hs) = MayDo g m h × IsHostHistory g (done g m h) hs
