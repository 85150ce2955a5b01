-- Reading a whole schedule: the group, its sheet and its issuer, and its events, or the first fault by line.
use Rattle.std.specs.Prelude.{ℕ, zero, suc, ◌+◌, ◌==◌, nat_le, if◌then◌else◌, List, [], ◌∷◌, length, take, drop, Option, Some, None, Result, Ok, ok_or, codes}
use Rattle.std.specs.List.{position}
use Rattle.std.specs.Option.{option_map}
use Rattle.metering_model.specs.Limits.{most_agents, last_period, most_nodes, last_node, last_packet, most_journal_lines, most_revival_lines}
use Rattle.metering_model.specs.FirstFailure.{◌>>=◌, holds_or}
use Rattle.metering_model.specs.Batch.{is_empty}
use Rattle.metering_model.specs.BatchReading.{is_same, lines_in, whole_in}
use Rattle.metering_model.specs.Schedule.{Planned, PlansJournal, PlansDelivery, PlansStart, PlansRestart, PlansExport, PlansKeep, PlansRevival}
use Rattle.metering_model.specs.Sheet as model
use Rattle.input_sections.specs.declared.faults.ScheduleCode.{ScheduleCode}
use Rattle.input_sections.specs.declared.faults.ScheduleCode.TheVariants.{Head, Nodes, Agents, Event, Lines}
use Rattle.input_sections.specs.declared.faults.ScheduleFault.{ScheduleFault}
use Rattle.input_sections.specs.declared.faults.ScheduleFault.TheVariants.{Refused}
use Rattle.input_sections.specs.Sections.{Unread, left, lines_left, section_of, whole_of, begins_with, first_line, number_behind, section_in, sheet_section, issuer_section}

-- ---- lines with numbers

-- the number behind a word, from 0 to the most
abbrev pub one_behind : List ℕ → ℕ → List ℕ → Option ℕ
one_behind word most line = if begins_with word line then whole_in 0 most (drop (length word) line) else None

abbrev pub both : Option ℕ → Option ℕ → Option (ℕ × ℕ)
both (Some m) (Some n) = Some (m, n)
both (Some m) None = None
both None o = None

-- the numbers before the place of a space and behind it
abbrev pub two_at : ℕ → ℕ → List ℕ → Option ℕ → Option (ℕ × ℕ)
two_at first second t (Some i) = both (whole_in 0 first (take i t)) (whole_in 0 second (drop (i + 1) t))
two_at first second t None = None

-- two numbers parted by the first space, each from 0 to its most
abbrev pub two_in : ℕ → ℕ → List ℕ → Option (ℕ × ℕ)
two_in first second t = two_at first second t (position (λ c. c == 32) t)

-- the two numbers behind a word
abbrev pub two_behind : List ℕ → ℕ → ℕ → List ℕ → Option (ℕ × ℕ)
two_behind word first second line = if begins_with word line then two_in first second (drop (length word) line) else None

-- ---- the nodes

-- no more than 99 together
abbrev pub if_few : Option (ℕ × ℕ) → Option (ℕ × ℕ)
if_few (Some n) = if nat_le (n.0 + n.1) most_nodes then Some n else None
if_few None = None

-- The voters and the observers: behind a space stands how many observe, and where there is none nobody does.
abbrev pub counts_at : List ℕ → Option ℕ → Option (ℕ × ℕ)
counts_at t (Some i) =
    if_few (both (whole_in 1 last_node (take i t)) (number_behind (codes "observers ") last_node (drop (i + 1) t)))
counts_at t None = option_map (λ n. (n, 0)) (whole_in 1 most_nodes t)

abbrev pub counts_in : List ℕ → Option (ℕ × ℕ)
counts_in t = counts_at t (position (λ c. c == 32) t)

-- what the line of the nodes tells
abbrev pub nodes_behind : List ℕ → Option (ℕ × ℕ)
nodes_behind line = if begins_with (codes "nodes ") line then counts_in (drop (length (codes "nodes ")) line) else None

-- ---- events

abbrev pub or_else : Option Planned → Option Planned → Option Planned
or_else (Some e) o = Some e
or_else None o = o

-- the event that one line is
abbrev pub event_of_line : List ℕ → Option Planned
event_of_line line =
    or_else (option_map (λ n. PlansDelivery n.0 n.1) (two_behind (codes "deliver ") last_packet last_node line))
    (or_else (option_map PlansStart (one_behind (codes "start ") last_node line))
    (or_else (option_map PlansRestart (one_behind (codes "restart ") last_node line))
    (or_else (option_map (λ n. PlansExport n.0 n.1) (two_behind (codes "export ") last_node last_period line))
    (option_map PlansKeep (one_behind (codes "keep ") last_node line)))))

-- an event of one line, and what is left behind it
unfoldable pub line_event : Unread → Result (Planned × Unread) ScheduleFault
line_event u = do
  l ← first_line Event u
  e ← ok_or (event_of_line l.0) (Refused Event u.line)
  Ok (e, l.1)

-- a journal, with its lines
unfoldable pub journal_event : Unread → Result (Planned × Unread) ScheduleFault
journal_event u = do
  s ← section_in Event (codes "journal ") most_journal_lines u
  Ok (PlansJournal (lines_in s.text).lines, s.rest)

-- the node and the number of lines, of which there is one at least
abbrev pub if_lines : Option (ℕ × ℕ) → Option (ℕ × ℕ)
if_lines (Some n) = if nat_le 1 n.1 then Some n else None
if_lines None = None

abbrev pub revival_of_line : List ℕ → Option (ℕ × ℕ)
revival_of_line line = if_lines (two_behind (codes "revive ") last_node most_revival_lines line)

-- a revival, with its lines
unfoldable pub revival_event : Unread → Result (Planned × Unread) ScheduleFault
revival_event u = do
  l ← first_line Event u
  n ← ok_or (revival_of_line l.0) (Refused Event u.line)
  _ ← holds_or (nat_le n.1 (length (lines_left l.1))) (Refused Lines u.line)
  Ok (PlansRevival n.0 (lines_in (section_of n.1 l.1).text).lines, (section_of n.1 l.1).rest)

unfoldable pub event_in : Unread → Result (Planned × Unread) ScheduleFault
event_in u =
    if begins_with (codes "journal ") (left u) then journal_event u
    else (if begins_with (codes "revive ") (left u) then revival_event u else line_event u)

-- events until nothing is left, and no more than so many
unfoldable pub events_in : ℕ → Unread → Result (List Planned) ScheduleFault
events_in zero u = Ok []
events_in (suc most) u =
    if is_empty (left u) then Ok []
    else (event_in u >>= λ (e : Planned × Unread). events_in most e.1 >>= λ (es : List Planned). Ok (e.0 ∷ es))

-- ---- the whole

-- What is read of a schedule. The lines of its sections are no longer there.
pub record ReadSchedule : Type 0 where
  pub voters : ℕ
  pub observers : ℕ
  pub agents : ℕ
  pub sheet : model.Sheet
  pub issuer : model.Issuer
  pub events : List Planned

-- what is left behind the first line
unfoldable pub head_line : Unread → Result Unread ScheduleFault
head_line u = do
  l ← first_line Head u
  _ ← holds_or (is_same l.0 (codes "SCHEDULE 1")) (Refused Head u.line)
  Ok l.1

-- the number, from 1 to the most, that a line with the word tells
unfoldable pub number_line : ScheduleCode → List ℕ → ℕ → Unread → Result (ℕ × Unread) ScheduleFault
number_line code word most u = do
  l ← first_line code u
  n ← ok_or (number_behind word most l.0) (Refused code u.line)
  Ok (n, l.1)

-- the voters and the observers that the next line tells
unfoldable pub nodes_line : Unread → Result (ℕ × ℕ × Unread) ScheduleFault
nodes_line u = do
  l ← first_line Nodes u
  n ← ok_or (nodes_behind l.0) (Refused Nodes u.line)
  Ok (n.0, n.1, l.1)

-- how many voters, observers and agents the group has, and what is left behind the lines that say so
unfoldable pub group_in : List ℕ → Result (ℕ × ℕ × ℕ × Unread) ScheduleFault
group_in text = do
  u ← whole_of text
  head ← head_line u
  nodes ← nodes_line head
  agents ← number_line Agents (codes "agents ") most_agents nodes.2
  Ok (nodes.0, nodes.1, agents.0, agents.1)

-- What stands above the events, and what is left behind it.
pub record Preamble : Type 0 where
  pub voters : ℕ
  pub observers : ℕ
  pub agents : ℕ
  pub sheet : model.Sheet
  pub issuer : model.Issuer
  pub rest : Unread

-- what a text gives above its events, or its first fault by line
unfoldable pub preamble_in : List ℕ → Result Preamble ScheduleFault
preamble_in text = do
  group ← group_in text
  sheet ← sheet_section group.3
  issuer ← issuer_section sheet.1
  Ok (record { voters = group.0; observers = group.1; agents = group.2; sheet = sheet.0; issuer = issuer.0; rest = issuer.1 })

-- What a text gives, or its first fault by line. No text has more events than bytes.
unfoldable pub schedule_in : List ℕ → Result ReadSchedule ScheduleFault
schedule_in text = do
  group ← group_in text
  sheet ← sheet_section group.3
  issuer ← issuer_section sheet.1
  events ← events_in (length text) issuer.1
  Ok (record { voters = group.0; observers = group.1; agents = group.2; sheet = sheet.0; issuer = issuer.0; events = events })
