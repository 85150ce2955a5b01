-- The schedule of an input: what it journals, and what it closes.
use Rattle.std.specs.Prelude.{◌≡◌, ◌≤◌, ℕ, ◌+◌, Bool, true, false, List, map, length, take, filter, All, Option, Some, None, Ok, IfSome, slice_get}
use Rattle.std.specs.List.{filter_map, flat_map, range_with_len}
use Rattle.metering_model.specs.Front.{front}
use Rattle.metering_model.specs.Schedule.{Planned, PlansJournal, PlansStart, PlansRestart, PlansExport, PlansKeep, PlansRevival, event_of, lines_text}
use Rattle.metering_model.specs.Step.{play}
use Rattle.metering_model.specs.World.{World, Snapshot, Reply, Delivered, Exported, opening}
use Rattle.input_sections.specs.RateInput.{RateInput, rate_input_in}
use Rattle.group_events.specs.Replies.{is_refused}
use Rattle.schedule_reader.specs.Schedules.{ReadSchedule, schedule_in}
use Rattle.schedule_player.specs.Transcripts.{replies_to}
use Rattle.schedule_writer.specs.declared.asked.Request.{Request}
use Rattle.schedule_writer.specs.Inputs.{Item, agents_of, batches_of, due_before, IsLastClosed, items_of}

-- ---- the events

-- the text of a journal, if an event is one
abbrev pub journal_in : Planned → Option (List ℕ)
journal_in (PlansJournal ls) = Some (lines_text ls)
journal_in other = None

-- the texts of the journals among these events, in order
abbrev pub journals_of : List Planned → List (List ℕ)
journals_of events = filter_map journal_in events

-- the node and the period whose file an event asks for, if it asks for one
abbrev pub export_in : Planned → Option (ℕ × ℕ)
export_in (PlansExport node period) = Some (node, period)
export_in other = None

-- whose files these events ask for, in order
abbrev pub exports_of : List Planned → List (ℕ × ℕ)
exports_of events = filter_map export_in events

-- the file of a period of each of so many nodes
abbrev pub files_of : ℕ → ℕ → List (ℕ × ℕ)
files_of nodes period = map (λ node. (node, period)) (range_with_len 0 nodes)

-- these of each of so many periods in turn
abbrev pub files_before : ℕ → ℕ → List (ℕ × ℕ)
files_before nodes periods = flat_map (files_of nodes) (range_with_len 0 periods)

abbrev pub is_start : Planned → Bool
is_start (PlansStart i) = true
is_start other = false

-- no node restarts, is revived, or is asked for what it keeps
abbrev pub is_needed : Planned → Bool
is_needed (PlansRestart i) = false
is_needed (PlansKeep i) = false
is_needed (PlansRevival i ls) = false
is_needed other = true

-- ---- what comes of them

-- the world of the schedule's group before the event at a place
abbrev pub world_at : ReadSchedule → ℕ → World
world_at r place = (play (opening r.voters r.observers r.agents r.sheet r.issuer) (map event_of (take place r.events))).1

-- The export at a place is answered: by the file of the period, whose cut has just each agent's batches before the first that is
-- not due, of all that is journaled then.
pub record IsExported (r : ReadSchedule) (place period : ℕ) : Type 0 where
  pub snapshot : Snapshot
  pub answers : slice_get (replies_to r r.events) place ≡ Some (Exported snapshot)
  pub is_of : snapshot.period ≡ period
  pub cut : snapshot.to ≡ front r.sheet.base (world_at r place).journals snapshot.from period

-- the period whose cut a node learned, if the reply tells of one
abbrev pub learned_in : Reply → Option ℕ
learned_in (Delivered sent learned) = learned
learned_in other = None

-- The schedule journals these batches, and closes the periods up to the last one and no other, each behind the batches that stand
-- above it. All that is left open are deliveries.
pub record ClosesEach (r : ReadSchedule) (is : List Item) (last : ℕ) : Type 0 where
  -- the batches, each once, in order, and nothing else is journaled
  pub journals : journals_of r.events ≡ map (λ b. b.text) (batches_of is)
  -- each node, observers too, is asked for the file of each period once: of all nodes in order, period by period
  pub exports : exports_of r.events ≡ files_before (r.voters + r.observers) (last + 1)
  -- as many ballots begin as there are periods to close
  pub ballots : length (filter is_start r.events) ≡ last + 1
  -- nothing else happens but deliveries
  pub needed : All (λ e. is_needed e ≡ true) r.events
  -- no event is refused
  pub none_refused : All (λ reply. is_refused reply ≡ false) (replies_to r r.events)
  -- no node learns that a later period is closed
  pub none_later : All (λ reply. IfSome (learned_in reply) (λ period. period ≤ last)) (replies_to r r.events)
  -- each file that is asked for is shown, and its cut leaves out nothing before an agent's first that is not due
  pub closed : (place node period : ℕ) → slice_get r.events place ≡ Some (PlansExport node period) → IsExported r place period
  -- before each file is asked for, just the batches above its period's close are journaled
  pub due : (place node period : ℕ) → slice_get r.events place ≡ Some (PlansExport node period)
      → length (journals_of (take place r.events)) ≡ due_before is period
  -- whenever a node learns that a period is closed, just the batches above its close are journaled
  pub behind : (place period : ℕ) (sent : Option ℕ) → slice_get (replies_to r r.events) place ≡ Some (Delivered sent (Some period))
      → length (journals_of (take place r.events)) ≡ due_before is period

-- The text is a schedule for an input, as it was asked for. The input is all that a reader gives, where its bytes are known.
pub record IsScheduleOf (request : Request) (known : Option (List ℕ)) (input text : List ℕ) : Type 0 where
  pub is_input : IfSome known (λ bytes. input ≡ bytes)
  pub given : RateInput
  pub is_given : rate_input_in input ≡ Ok given
  pub schedule : ReadSchedule
  pub is_read : schedule_in text ≡ Ok schedule
  pub voters : schedule.voters ≡ request.nodes
  pub observers : schedule.observers ≡ request.observers
  pub agents : schedule.agents ≡ agents_of (batches_of (items_of input given))
  pub sheet : schedule.sheet ≡ given.sheet
  pub issuer : schedule.issuer ≡ given.issuer
  pub last : ℕ
  pub through : IsLastClosed request.through given.sheet.base (items_of input given) last
  pub closes : ClosesEach schedule (items_of input given) last
