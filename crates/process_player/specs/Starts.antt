-- With what a process is begun: two lines that tell what it is, the price sheet, the issuer, and what it stored last.
use Rattle.std.specs.Prelude.{◌≡◌, ℕ, Bool, true, false, List, [], ◌∷◌, ◌++◌, length, Some, Result, Ok, Err, codes}
use Rattle.metering_model.specs.FirstFailure.{◌>>=◌, holds_or}
use Rattle.metering_model.specs.BatchReading.{is_same, lines_in}
use Rattle.metering_model.specs.KeptText.{KeptAmong}
use Rattle.metering_model.specs.Sheet.{Sheet, Issuer}
use Rattle.metering_model.specs.Transcript.{line}
use Rattle.metering_model.specs.World.{wake}
use Rattle.process_laws.specs.LocalSteps as laws
use Rattle.input_sections.specs.declared.faults.ScheduleFault.{ScheduleFault}
use Rattle.input_sections.specs.declared.faults.ScheduleFault.TheVariants.{Refused}
use Rattle.input_sections.specs.declared.faults.ScheduleCode.TheVariants as code
use Rattle.input_sections.specs.Sections.{Unread, first_line, left, whole_of, sheet_section, issuer_section, told}
use Rattle.log_text.specs.LogText.{LogTextFault, ReadLog, Who, NodeOf, AgentOf, log_in, most_kept_lines, section_in}
use Rattle.group_process.specs.Journals.{keeps_journal_of}
use Rattle.process_text.specs.declared.processes.Process.{Process}
use Rattle.process_text.specs.declared.processes.Process.TheVariants as process
use Rattle.process_player.specs.declared.heads.ProcessKind.{ProcessKind}
use Rattle.process_player.specs.declared.heads.ProcessKind.TheVariants as kind

-- the first line of all
abbrev pub kind_word : ProcessKind → List ℕ
kind_word kind.Node = codes "NODE 1"
kind_word kind.Agent = codes "AGENT 1"

-- a node is a node, and an agent an agent
abbrev pub is_kind_of : ProcessKind → Who → Bool
is_kind_of kind.Node (NodeOf node) = true
is_kind_of kind.Node (AgentOf agent) = false
is_kind_of kind.Agent (NodeOf node) = false
is_kind_of kind.Agent (AgentOf agent) = true

-- it is the log of such a process
abbrev pub is_log_of : ProcessKind → Result ReadLog LogTextFault → Bool
is_log_of k (Ok own) = is_kind_of k own.head.who
is_log_of k (Err fault) = false

-- the line heads a log of such a process
abbrev pub heads_log : ProcessKind → List ℕ → Bool
heads_log k l = is_log_of k (log_in (line l))

-- The log of a process that has stored nothing is its own line: the head of each of its logs.
abbrev pub own_of : ProcessKind → Unread → Result (ReadLog × Unread) ScheduleFault
own_of k u = do
  l ← first_line code.Nodes u
  own ← told (Refused code.Nodes 2) (log_in (line l.0))
  _ ← holds_or (is_kind_of k own.head.who) (Refused code.Nodes 2)
  Ok (own, l.1)

abbrev pub head_of : ProcessKind → Unread → Result (ReadLog × Unread) ScheduleFault
head_of k u = do
  l ← first_line code.Head u
  _ ← holds_or (is_same l.0 (kind_word k)) (Refused code.Head 1)
  own_of k l.1

-- what stands before the log, and what is left behind it
pub record Preamble : Type 0 where
  pub own : ReadLog
  pub sheet : Sheet
  pub issuer : Issuer
  pub rest : Unread

unfoldable pub preamble_in : ProcessKind → List ℕ → Result Preamble ScheduleFault
preamble_in k text = do
  u ← whole_of text
  h ← head_of k u
  s ← sheet_section h.1
  i ← issuer_section s.1
  Ok (record { own = h.0; sheet = s.0; issuer = i.0; rest = i.1 })

-- What was stored last: nothing, or a log of this head, below a line that says how many lines it has.
pub data IsStored (own : ReadLog) : (text : List ℕ) → KeptAmong → Type 0 where
  HasNone : IsStored own (codes "new" ++ 10 ∷ []) own.kept
  HasLog : (said log : List ℕ) (kept : KeptAmong) (n : ℕ)
      → section_in (codes "log ") most_kept_lines said ≡ Some n → length (lines_in log).lines ≡ n
      → log_in log ≡ Ok (record { head = own.head; kept = kept })
      → IsStored own (line said ++ log) kept

abbrev pub group_of : Preamble → laws.Group
group_of p = record {
  name = p.own.head.group;
  voters = p.own.head.voters;
  observers = p.own.head.observers;
  agents = p.own.head.agents;
  sheet = p.sheet;
  issuer = p.issuer;
}

-- The process that goes on with what is kept: of an agent that is its journal alone, without a gap.
abbrev pub GoesOn : laws.Group → Who → KeptAmong → Process → Type 0
GoesOn g (NodeOf i) k (process.Node n) = n ≡ record { group = g; number = i; node = wake k.kept }
GoesOn g (NodeOf i) k (process.Agent a) = ⊥
GoesOn g (AgentOf a) k (process.Node n) = ⊥
GoesOn g (AgentOf i) k (process.Agent a) =
    (a ≡ record { group = g; number = i; journal = k.kept.holding }) × (k.kept ≡ laws.journal_kept k.kept.holding)
    × (keeps_journal_of i k.kept ≡ true)

-- A process is begun by that text: its preamble, to the last byte, and what was stored.
pub record Begins (k : ProcessKind) (text : List ℕ) (p : Process) : Type 0 where
  pub preamble : Preamble
  pub first : List ℕ
  pub stored : List ℕ
  pub joined : text ≡ first ++ stored
  pub is_read : preamble_in k first ≡ Ok preamble
  pub whole : left preamble.rest ≡ []
  pub kept : KeptAmong
  pub is_stored : IsStored preamble.own stored kept
  pub goes_on : GoesOn (group_of preamble) preamble.own.head.who kept p
