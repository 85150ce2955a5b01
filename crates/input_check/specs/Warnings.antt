-- What is warned of in an input: keys that no reader takes, and readings far ahead of all above them. Nothing is refused for it.
use Rattle.std.specs.Prelude.{◌≡◌, ℕ, ◌-◌, List, [], ◌∷◌, ◌++◌, length, take, Some, Result, Ok, Err, slice_get}
use Rattle.metering_model.specs.Batch.{Batch}
use Rattle.metering_model.specs.RatedAlone.{journaled_in}
use Rattle.metering_model.specs.Schedule.{Planned, PlansJournal, TextLines, lines_text}
use Rattle.metering_model.specs.Transcript.{line_count}
use Rattle.metering_model.specs.World.{Reply, Journaled}
use Rattle.metering_model.specs.declared.Refusal.{Refusal}
use Rattle.batch_view.specs.Batches.{batch_of}
use Rattle.input_sections.specs.RateInput.{RateInput, rate_input_in}
use Rattle.schedule_reader.specs.Schedules.{ReadSchedule, schedule_in}
use Rattle.schedule_player.specs.Transcripts.{replies_to}
use Rattle.fault_lines.specs.Ahead.{ahead_of_all}
use Rattle.fault_lines.specs.UnknownKeys.{unknown_on}
use Rattle.input_check.specs.Checks.{event_lines}
use Rattle.input_check.specs.declared.kinds.InputKind.{InputKind}
use Rattle.input_check.specs.declared.kinds.InputKind.TheVariants as kind

-- ---- the batches that are journaled, each behind so many lines of the input

-- of an event that begins on a line: its batch, where the reply says that it was journaled
abbrev pub if_journaled : ℕ → Planned → Reply → List (ℕ × Batch)
if_journaled n (PlansJournal ls) (Journaled k) = (n, batch_of (lines_text ls)) ∷ []
if_journaled n e reply = []

-- of events that begin on these lines, with their replies
abbrev pub journaled_among : List ℕ → List Planned → List Reply → List (ℕ × Batch)
journaled_among [] events replies = []
journaled_among (n ∷ ns) [] replies = []
journaled_among (n ∷ ns) (e ∷ es) [] = []
journaled_among (n ∷ ns) (e ∷ es) (r ∷ rs) = if_journaled n e r ++ journaled_among ns es rs

-- A batch counts exactly where the reply to its event says that it was journaled, behind as many lines as that event begins on, and
-- behind as many batches as count of the events above it.
pub record CountsWhatIsJournaled (lines : List ℕ) (events : List Planned) (replies : List Reply) : Type 0 where
  pub each : (i n : ℕ) (b : Batch) → slice_get (journaled_among lines events replies) i ≡ Some (n, b) → (k packet : ℕ) × (ls : TextLines)
      × (slice_get lines k ≡ Some n) × (slice_get events k ≡ Some (PlansJournal ls)) × (slice_get replies k ≡ Some (Journaled packet)) × (b ≡ batch_of (lines_text ls))
      × (i ≡ length (journaled_among (take k lines) (take k events) (take k replies)))
  pub all : (k n packet : ℕ) (ls : TextLines) → slice_get lines k ≡ Some n → slice_get events k ≡ Some (PlansJournal ls) → slice_get replies k ≡ Some (Journaled packet)
      → (i : ℕ) × (slice_get (journaled_among lines events replies) i ≡ Some (n, batch_of (lines_text ls)))
      × (i ≡ length (journaled_among (take k lines) (take k events) (take k replies)))

-- of a schedule
abbrev pub journaled_in_schedule : List ℕ → ReadSchedule → List (ℕ × Batch)
journaled_in_schedule text s = journaled_among (event_lines text) s.events (replies_to s s.events)

-- of what is to be rated: its batch, where `rate` takes it
abbrev pub if_taken : ℕ → Result Batch Refusal → List (ℕ × Batch)
if_taken lines (Ok b) = (lines, b) ∷ []
if_taken lines (Err why) = []

abbrev pub journaled_in_rating : List ℕ → RateInput → List (ℕ × Batch)
journaled_in_rating text given =
    if_taken (line_count (take (length text - length given.batch) text)) (journaled_in given.sheet given.issuer given.batch)

-- ---- an input

-- Where all sections and all events have their forms, first the keys and then the readings; else nothing. Above the sheet of a
-- schedule stand its head, its nodes and its agents, and above that of a rating nothing.
unfoldable pub warned_of_schedule : List ℕ → List ℕ
warned_of_schedule text =
    elim (schedule_in text) [ Ok s ↦ unknown_on 4 text ++ ahead_of_all [] (journaled_in_schedule text s) | Err fault ↦ [] ]

unfoldable pub warned_of_rating : List ℕ → List ℕ
warned_of_rating text =
    elim (rate_input_in text) [ Ok given ↦ unknown_on 1 text ++ ahead_of_all [] (journaled_in_rating text given) | Err fault ↦ [] ]

abbrev pub warned_of_input_as : InputKind → List ℕ → List ℕ
warned_of_input_as kind.Play text = warned_of_schedule text
warned_of_input_as kind.Rate text = warned_of_rating text
