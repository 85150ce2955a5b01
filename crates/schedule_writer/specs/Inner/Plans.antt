-- What a schedule is to journal and to close, and what it has done so far.
use Rattle.std.specs.Prelude.{◌≡◌, ◌≤◌, ℕ, ◌+◌, ◌==◌, ◌&&◌, Bool, true, false, not, nat_le, nat_lt, if◌then◌else◌, List, [], ◌∷◌, length, map, Option, Some, None, Result, Ok, ⊤}
use Rattle.std.specs.Arc.{arc_value}
use Rattle.std.specs.List.{slice_index_or}
use Rattle.std.specs.Option.{option_and_then, option_map_or}
use Rattle.batch_view.specs.Batches.{batch_of}
use Rattle.metering_model.specs.BatchReading.{is_same}
use Rattle.metering_model.specs.Front.{front}
use Rattle.metering_model.specs.Holding.{Holding, put}
use Rattle.metering_model.specs.Limits.{last_period, most_agents, most_nodes}
use Rattle.metering_model.specs.Schedule.{Planned, PlansJournal, PlansDelivery, PlansStart, PlansRestart, PlansExport, PlansKeep, PlansRevival, event_of, lines_text}
use Rattle.metering_model.specs.Step.{step}
use Rattle.metering_model.specs.World.{World, Event, Journal, Good, Reply, Exported}
use Rattle.group_events.specs.Replies.{is_refused}
use Rattle.input_sections.specs.declared.faults.ScheduleFault.{ScheduleFault}
use Rattle.input_sections.specs.Sections.{Unread}
use Rattle.schedule_reader.specs.Schedules.{event_in}
use Rattle.schedule_writer.specs.declared.inputs.Item.{Item as LentItem}
use Rattle.schedule_writer.specs.declared.inputs.Item.TheVariants as lent
use Rattle.schedule_writer.specs.declared.inputs.Offered.{Offered as LentBatch}
use Rattle.schedule_writer.specs.declared.judging.Taken.{Taken}
use Rattle.schedule_writer.specs.declared.plans.Plan.{Plan as LentPlan}
use Rattle.schedule_writer.specs.declared.plans.Seen.{Seen}
use Rattle.schedule_writer.specs.Inputs.{Item, Offers, Closes, Offered, due_in}
use Rattle.schedule_writer.specs.Schedules.{learned_in}

abbrev pub offered_of : LentBatch → Offered
offered_of b = record { from = b.from; text = b.text.now }

abbrev pub taken_of : Taken → Offered
taken_of b = record { from = b.from; text = arc_value b.batch }

abbrev pub item_of : LentItem → Item
item_of (lent.Offers b) = Offers (offered_of b)
item_of lent.Closes = Closes

-- how many nodes show the file of each period, the last period, the month of the first, the batches, and how many stand above each
-- line that closes a period
pub record Plan : Type 0 where
  pub nodes : ℕ
  pub last : ℕ
  pub base : ℕ
  pub batches : List (List ℕ)
  pub closes : List ℕ

-- a group may have so many voters, nodes and agents, and such a last period
pub record IsPlan (p : LentPlan) : Type 0 where
  pub voters : 1 ≤ p.voters
  pub all : p.nodes ≡ p.voters + p.observers
  pub nodes : p.nodes ≤ most_nodes
  pub agents : (1 ≤ p.agents) × (p.agents ≤ most_agents)
  pub last : p.last ≤ last_period

abbrev pub plan_of : LentPlan → Plan
plan_of p = record {
  nodes = p.nodes;
  last = p.last;
  base = (arc_value p.sheet.now).base;
  batches = map (λ b. b.text) (map taken_of p.batches.now);
  closes = p.closes.now;
}

abbrev pub due_for : Plan → ℕ → ℕ
due_for plan p = due_in plan.closes (length plan.batches) p

-- whether the text is the batch that comes next
abbrev pub is_next : Plan → Seen → List ℕ → Bool
is_next plan seen text = nat_lt seen.journaled (length plan.batches) && is_same (slice_index_or plan.batches seen.journaled []) text

-- a batch that is planned is the one that comes next
abbrev pub ComesNext : Plan → Seen → Planned → Type 0
ComesNext plan seen (PlansJournal ls) = is_next plan seen (lines_text ls) ≡ true
ComesNext plan seen other = ⊤

-- whether it is the node's turn to show the file of that period, and the batches above it are journaled
abbrev pub is_turn : Plan → Seen → ℕ → ℕ → Bool
is_turn plan seen node period =
    (node == seen.node) && nat_lt node plan.nodes && (period == seen.period) && nat_le period plan.last && (seen.journaled == due_for plan period)

-- whether the reply is the file of that period, with each agent's batches before the first that is not due, of what is journaled
abbrev pub is_file_of : ℕ → Holding → ℕ → Reply → Bool
is_file_of base journals p (Exported s) = (s.period == p) && is_same s.to (front base journals s.from p)
is_file_of base journals p other = false

-- whether nothing was refused, and where a period was learned, it is no later one than the last, and just the batches above its close are
-- journaled
abbrev pub is_good : Plan → Seen → Reply → Bool
is_good plan seen r = not (is_refused r) && option_map_or (λ period. nat_le period plan.last && (seen.journaled == due_for plan period)) (learned_in r) true

abbrev pub one_more_batch : Seen → Seen
one_more_batch seen = record seen { journaled = seen.journaled + 1 }

abbrev pub one_more_ballot : Seen → Seen
one_more_ballot seen = record seen { ballots = seen.ballots + 1 }

abbrev pub one_more_file : Plan → Seen → Seen
one_more_file plan seen =
    if nat_lt (seen.node + 1) plan.nodes then record seen { node = seen.node + 1 } else record seen { node = 0; period = seen.period + 1 }

-- what was done behind an event that was taken, with these journals before it, where it is what is planned
abbrev pub behind_taken : Plan → Seen → Holding → Reply → Planned → Option Seen
behind_taken plan seen h r (PlansJournal ls) = if is_next plan seen (lines_text ls) then Some (one_more_batch seen) else None
behind_taken plan seen h r (PlansExport i p) = if is_turn plan seen i p && is_file_of plan.base h p r then Some (one_more_file plan seen) else None
behind_taken plan seen h r (PlansDelivery k i) = Some seen
behind_taken plan seen h r (PlansStart i) = if nat_le seen.ballots plan.last then Some (one_more_ballot seen) else None
behind_taken plan seen h r (PlansRestart i) = None
behind_taken plan seen h r (PlansKeep i) = None
behind_taken plan seen h r (PlansRevival i ls) = None

-- nothing is planned that is refused, or by which a period is learned that is a later one, or with more or fewer batches than stand above
abbrev pub behind : Plan → Seen → Holding → Reply → Planned → Option Seen
behind plan seen h r e = if is_good plan seen r then behind_taken plan seen h r e else None

-- what was done behind these events, where each is what is planned
unfoldable pub behind_all : Plan → Seen → World → List Planned → Option Seen
behind_all plan seen w [] = Some seen
behind_all plan seen w (e ∷ es) =
    option_and_then (λ next. behind_all plan next (step w (event_of e)).1 es) (behind plan seen w.journals (step w (event_of e)).0 e)

-- The events that were read are what is planned, and this was done behind them.
pub record IsDone (plan : Plan) (seen last : Seen) (w : World) (read : Result (List Planned) ScheduleFault) : Type 0 where
  pub events : List Planned
  pub is_read : read ≡ Ok events
  pub done : behind_all plan seen w events ≡ Some last

-- The next event that was read is what is planned, this was done behind it, and the world is as it leaves it.
pub record IsDoneNext (plan : Plan) (seen next : Seen) (w v : World) (here rest : Unread) : Type 0 where
  pub event : Planned
  pub is_read : event_in here ≡ Ok (event, rest)
  pub done : behind plan seen w.journals (step w (event_of event)).0 event ≡ Some next
  pub after : v ≡ (step w (event_of event)).1

abbrev pub nothing_seen : Seen
nothing_seen = record { journaled = 0; ballots = 0; node = 0; period = 0 }

-- all batches, a ballot for each period, and each node's file of each period
abbrev pub all_seen : Plan → Seen
all_seen plan = record { journaled = length plan.batches; ballots = plan.last + 1; node = 0; period = plan.last + 1 }

-- the journals with the batch of an event that was taken, if it has one
abbrev pub journals_behind : Holding → Event → Holding
journals_behind h (Journal (Good text)) = put h (batch_of text)
journals_behind h other = h
