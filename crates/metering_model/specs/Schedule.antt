-- Schedules as texts: a group, its sheet and its issuer as lines, and events.
use Rattle.std.specs.Prelude.{◌≡◌, ℕ, zero, suc, ◌+◌, ◌≤◌, List, ◌++◌, length, map, All, codes, IsTrue}
use Rattle.std.specs.List.{flat_map, list_all}
use Rattle.metering_model.specs.Limits.{most_agents, last_period, most_nodes, last_node, last_packet, most_sheet_lines, most_issuer_lines, most_journal_lines, most_revival_lines, most_input_bytes}
use Rattle.metering_model.specs.Batch.{lacks}
use Rattle.metering_model.specs.Sheet.{Sheet, Issuer}
use Rattle.metering_model.specs.World.{offer_of, Event, Journal, Deliver, Start, Restart, Export, Keep, Revive, opening}
use Rattle.metering_model.specs.KeptText.{kept_offer_of}
use Rattle.metering_model.specs.Step.{play}
use Rattle.metering_model.specs.Transcript.{line, with_number, transcript}

-- lines without their line feeds
abbrev pub TextLines : Type 0
TextLines = List (List ℕ)

abbrev pub lines_text : TextLines → List ℕ
lines_text ls = flat_map line ls

-- an event as it stands in a schedule; a journal and a revival have the lines below it
pub data Planned : Type 0 where
  PlansJournal : (lines : TextLines) → Planned
  PlansDelivery : (packet node : ℕ) → Planned
  PlansStart : (node : ℕ) → Planned
  PlansRestart : (node : ℕ) → Planned
  PlansExport : (node period : ℕ) → Planned
  PlansKeep : (node : ℕ) → Planned
  PlansRevival : (node : ℕ) (lines : TextLines) → Planned

pub record Schedule : Type 0 where
  pub voters : ℕ
  pub observers : ℕ
  pub agents : ℕ
  pub sheet : TextLines
  pub issuer : TextLines
  pub events : List Planned

-- a line that says how many lines follow, and these lines
abbrev pub section_text : List ℕ → TextLines → List ℕ
section_text word ls = line (with_number word (length ls)) ++ lines_text ls

abbrev pub planned_text : Planned → List ℕ
planned_text (PlansJournal ls) = section_text (codes "journal ") ls
planned_text (PlansDelivery k i) = line (with_number (codes "deliver ") k ++ with_number (codes " ") i)
planned_text (PlansStart i) = line (with_number (codes "start ") i)
planned_text (PlansRestart i) = line (with_number (codes "restart ") i)
planned_text (PlansExport i p) = line (with_number (codes "export ") i ++ with_number (codes " ") p)
planned_text (PlansKeep i) = line (with_number (codes "keep ") i)
planned_text (PlansRevival i ls) = section_text (with_number (codes "revive ") i ++ codes " ") ls

-- where there are no observers, nothing is said of them
abbrev pub nodes_text : ℕ → ℕ → List ℕ
nodes_text voters zero = with_number (codes "nodes ") voters
nodes_text voters (suc m) = with_number (codes "nodes ") voters ++ with_number (codes " observers ") (suc m)

abbrev pub schedule_text : Schedule → List ℕ
schedule_text s =
    line (codes "SCHEDULE 1") ++ line (nodes_text s.voters s.observers) ++ line (with_number (codes "agents ") s.agents)
    ++ section_text (codes "sheet ") s.sheet ++ section_text (codes "issuer ") s.issuer ++ flat_map planned_text s.events

-- so many lines, of which none holds a line feed
pub record AreLines (most : ℕ) (ls : TextLines) : Type 0 where
  pub some : 1 ≤ length ls
  pub at_most : length ls ≤ most
  pub whole : IsTrue (list_all (lacks 10) ls)

abbrev pub IsPlanned : Planned → Type 0
IsPlanned (PlansJournal ls) = AreLines most_journal_lines ls
IsPlanned (PlansDelivery k i) = (k ≤ last_packet) × (i ≤ last_node)
IsPlanned (PlansStart i) = i ≤ last_node
IsPlanned (PlansRestart i) = i ≤ last_node
IsPlanned (PlansExport i p) = (i ≤ last_node) × (p ≤ last_period)
IsPlanned (PlansKeep i) = i ≤ last_node
IsPlanned (PlansRevival i ls) = (i ≤ last_node) × AreLines most_revival_lines ls

-- The text joins the parts of the schedule, each within its limits. Whether its sheet and issuer can be read is not said.
pub record HasScheduleForm (text : List ℕ) (s : Schedule) : Type 0 where
  pub joined : text ≡ schedule_text s
  pub short : length text ≤ most_input_bytes
  pub nodes : (1 ≤ s.voters) × (s.voters + s.observers ≤ most_nodes)
  pub agents : (1 ≤ s.agents) × (s.agents ≤ most_agents)
  pub sheet : AreLines most_sheet_lines s.sheet
  pub issuer : AreLines most_issuer_lines s.issuer
  pub events : All IsPlanned s.events

abbrev pub event_of : Planned → Event
event_of (PlansJournal ls) = Journal (offer_of (lines_text ls))
event_of (PlansDelivery k i) = Deliver k i
event_of (PlansStart i) = Start i
event_of (PlansRestart i) = Restart i
event_of (PlansExport i p) = Export i p
event_of (PlansKeep i) = Keep i
event_of (PlansRevival i ls) = Revive i (kept_offer_of (lines_text ls))

-- the transcript of a schedule, under the sheet and the issuer that its sections are read as
abbrev pub transcript_of : Sheet → Issuer → Schedule → List ℕ
transcript_of sheet issuer s = transcript (play (opening s.voters s.observers s.agents sheet issuer) (map event_of s.events)).0
