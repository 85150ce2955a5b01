-- What a process is asked by a line of text and the lines that it says to be below it.
use Rattle.std.specs.Prelude.{ℕ, ◌+◌, ◌==◌, if◌then◌else◌, List, length, take, drop, Option, Some, None, unwrap_or, codes}
use Rattle.std.specs.List.{position}
use Rattle.metering_model.specs.Limits.{last_period, last_sequence, most_agents, most_journal_lines}
use Rattle.metering_model.specs.BatchReading.{is_same, whole_in}
use Rattle.metering_model.specs.World.{offer_of}
use Rattle.process_laws.specs.LocalSteps.{NodeCommand, TakePacket, BeginBallot, ExportPeriod, TellKept, SendBatch, AgentCommand, JournalBatch, SendAgain, TellJournal}
use Rattle.packet_text.specs.PacketText.{GroupPacket, packet_in}
use Rattle.input_sections.specs.Sections.{begins_with, number_behind}
use Rattle.process_text.specs.declared.processes.Process.{Process}
use Rattle.process_text.specs.declared.processes.Process.TheVariants as process

-- lines of a packet: one, and where that is one of a batch at most the lines of the greatest batch
abbrev pub most_packet_lines : ℕ
most_packet_lines = 1 + most_journal_lines

-- a command, lines that should be a packet and are none, or a line that is no command
pub data NodeRequest : Type 0 where
  AsksNode : NodeCommand → NodeRequest
  NoPacket : NodeRequest
  NoNodeCommand : NodeRequest

pub data AgentRequest : Type 0 where
  AsksAgent : AgentCommand → AgentRequest
  NoAgentCommand : AgentRequest

-- ---- numbers behind a word

abbrev pub period_behind : List ℕ → Option ℕ
period_behind line = if begins_with (codes "export ") line then whole_in 0 last_period (drop (length (codes "export ")) line) else None

abbrev pub seq_behind : List ℕ → Option ℕ
seq_behind line = if begins_with (codes "again ") line then whole_in 1 last_sequence (drop (length (codes "again ")) line) else None

abbrev pub both : Option ℕ → Option ℕ → Option (ℕ × ℕ)
both (Some m) (Some n) = Some (m, n)
both (Some m) None = None
both None o = None

abbrev pub place_at : List ℕ → Option ℕ → Option (ℕ × ℕ)
place_at t None = None
place_at t (Some at) = both (whole_in 1 most_agents (take at t)) (whole_in 1 last_sequence (drop (at + 1) t))

-- an agent and a sequence, parted by the first space
abbrev pub place_in : List ℕ → Option (ℕ × ℕ)
place_in t = place_at t (position (λ c. c == 32) t)

abbrev pub place_behind : List ℕ → Option (ℕ × ℕ)
place_behind line = if begins_with (codes "give ") line then place_in (drop (length (codes "give ")) line) else None

-- ---- what is asked

abbrev pub give_request : Option (ℕ × ℕ) → NodeRequest
give_request (Some place) = AsksNode (SendBatch place.0 place.1)
give_request None = NoNodeCommand

abbrev pub export_request : (give : NodeRequest) → Option ℕ → NodeRequest
export_request give (Some period) = AsksNode (ExportPeriod period)
export_request give None = give

-- a line below which nothing stands
abbrev pub line_request : List ℕ → NodeRequest
line_request line =
    if is_same line (codes "start") then AsksNode BeginBallot
    else (if is_same line (codes "keep") then AsksNode TellKept
    else export_request (give_request (place_behind line)) (period_behind line))

abbrev pub packet_request : Option GroupPacket → NodeRequest
packet_request (Some p) = AsksNode (TakePacket p.group p.packet)
packet_request None = NoPacket

-- of a node: `packet n` and n lines, `start`, `export p`, `keep`, or `give a s`
abbrev pub node_request : (line below : List ℕ) → NodeRequest
node_request line below = elim (number_behind (codes "packet ") most_packet_lines line) [
  | Some n ↦ packet_request (packet_in below)
  | None ↦ line_request line
]

abbrev pub again_request : Option ℕ → AgentRequest
again_request (Some seq) = AsksAgent (SendAgain seq)
again_request None = NoAgentCommand

-- of an agent: `journal n` and n lines, `keep`, or `again s`
abbrev pub agent_request : (line below : List ℕ) → AgentRequest
agent_request line below = elim (number_behind (codes "journal ") most_journal_lines line) [
  | Some n ↦ AsksAgent (JournalBatch (offer_of below))
  | None ↦ if is_same line (codes "keep") then AsksAgent TellJournal else again_request (seq_behind line)
]

-- how many lines belong to a line below it
abbrev pub lines_below : Process → List ℕ → ℕ
lines_below (process.Node n) line = unwrap_or (number_behind (codes "packet ") most_packet_lines line) 0
lines_below (process.Agent a) line = unwrap_or (number_behind (codes "journal ") most_journal_lines line) 0
