-- What a schedule stands for, and what stands when playing stops.
use Rattle.std.specs.Prelude.{◌≡◌, ℕ, ◌+◌, ◌<◌, ◌≤◌, ◌⊎◌, List, ◌++◌, Option, length, map, take}
use Rattle.std.specs.Io.KnownBytes.{Appends}
use Rattle.metering_model.specs.World.{World, Event}
use Rattle.metering_model.specs.Step.{play}
use Rattle.metering_model.specs.Schedule.{Planned, event_of}
use Rattle.metering_model.specs.Transcript.{transcript}
use Rattle.schedule_reader.specs.declared.schedules.Schedule.{Schedule}
use Rattle.schedule_reader.specs.Schedules.{ReadSchedule}

abbrev pub read_of : Schedule → ReadSchedule
read_of s = record { voters = s.voters; observers = s.observers; agents = s.agents; sheet = s.sheet; issuer = s.issuer; events = s.events.planned }

-- what happens to the group, by the model
abbrev pub events_of : List Planned → List Event
events_of events = map event_of events

-- the transcript of these events from this world on
abbrev pub text_of : World → List Event → List ℕ
text_of w events = transcript (play w events).0

-- the world after the first of these events, so many
abbrev pub world_after : World → List Planned → ℕ → World
world_after w events done = (play w (events_of (take done events))).1

-- The world is that after so many events. Where the reply to the next one found no room, it may be that after this one too.
abbrev pub IsWorldAfter : World → List Planned → ℕ → World → Type 0
IsWorldAfter w events done v = (v ≡ world_after w events done) ⊎ ((done < length events) × (v ≡ world_after w events (done + 1)))

-- Of the transcript of so many events known contents grew by a prefix, and all the rest of it waits.
abbrev pub IsTold : Option (List ℕ) → Option (List ℕ) → List ℕ → World → List Planned → ℕ → Type 0
IsTold old new waits w events done = (written : List ℕ) × Appends old new written × (written ++ waits ≡ text_of w (events_of (take done events)))

-- So many events were done: the world is that after them, and what a transcript says of them was written or waits. Little waits.
pub record HasPlayed (w : World) (events : List Planned) (done : ℕ) (v : World) (old new : Option (List ℕ)) (waits : List ℕ) : Type 0 where
  pub within : done ≤ length events
  pub world : IsWorldAfter w events done v
  pub told : IsTold old new waits w events done
  pub few : length waits < 65_536

-- Known contents grew by the transcript of the first of these events, and not of all.
abbrev pub AppendsFirst : Option (List ℕ) → Option (List ℕ) → World → List Planned → Type 0
AppendsFirst old new w events = (done : ℕ) × (done < length events) × Appends old new (text_of w (events_of (take done events)))
