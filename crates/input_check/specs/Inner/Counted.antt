-- The batches that count for what is warned of, event by event.
use Rattle.std.specs.Prelude.{ℕ, zero, suc, if◌then◌else◌, List, [], ◌∷◌, ◌++◌, Ok, Err}
use Rattle.metering_model.specs.Batch.{Batch, is_empty}
use Rattle.metering_model.specs.Schedule as schedule
use Rattle.metering_model.specs.Step.{step}
use Rattle.metering_model.specs.World.{World, Event, Journal, Good, Reply, Journaled}
use Rattle.batch_view.specs.Batches.{batch_of}
use Rattle.input_sections.specs.Sections.{Unread, left}
use Rattle.schedule_reader.specs.Schedules.{event_in}
use Rattle.input_check.specs.Warnings.{if_journaled}

-- the batch that an event of a group hands in
abbrev pub handed_in : ℕ → Event → List (ℕ × Batch)
handed_in n (Journal (Good text)) = (n, batch_of text) ∷ []
handed_in n event = []

-- of an event that begins on a line, by its reply
abbrev pub counted_of : ℕ → Event → Reply → List (ℕ × Batch)
counted_of n event (Journaled k) = handed_in n event
counted_of n event reply = []

-- of the events that are left, played from a world on
unfoldable pub counted_of_events : ℕ → World → Unread → List (ℕ × Batch)
counted_of_events zero w u = []
counted_of_events (suc most) w u =
    if is_empty (left u) then []
    else elim (event_in u) [ Ok e ↦ if_journaled u.line e.0 (step w (schedule.event_of e.0)).0 ++ counted_of_events most (step w (schedule.event_of e.0)).1 e.1 | Err fault ↦ [] ]

-- the batches that were journaled, the last of them first, behind those that were before
abbrev pub with_counted : List (ℕ × Batch) → List Batch → List Batch
with_counted [] journaled = journaled
with_counted (p ∷ ps) journaled = with_counted ps (p.1 ∷ journaled)
