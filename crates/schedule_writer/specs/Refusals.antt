-- Why, and at which line, an input is refused: for its sections, or for one of its batches.
use Rattle.std.specs.Prelude.{◌≡◌, ◌⊎◌, ℕ, List, ◌∷◌, ◌++◌, All, map, take, Ok, Err}
use Rattle.metering_model.specs.RatedAlone.{world_before}
use Rattle.metering_model.specs.Sheet.{Sheet, Issuer}
use Rattle.metering_model.specs.Step.{play, step}
use Rattle.metering_model.specs.Transcript.{line, line_count}
use Rattle.metering_model.specs.World.{World, Event, Journal, Reply, Journaled, Refused, offer_of}
use Rattle.metering_model.specs.declared.Refusal.{Refusal}
use Rattle.metering_model.specs.declared.Refusal.TheVariants.{WorldFull}
use Rattle.input_sections.specs.RateInput.{RateInput, rate_input_in}
use Rattle.input_sections.specs.declared.faults.ScheduleFault.{ScheduleFault}
use Rattle.fault_lines.specs.Told.{bad_index, said_of_fault, told_at, told_of_text, words_of}
use Rattle.schedule_writer.specs.Inputs.{Offered, batches_of, items_of, line_of}

-- ---- a group of one node and 64 agents, in which batches are journaled in turn

-- what a world answers to a text that is to be journaled
unfoldable pub answer_to : World → List ℕ → Reply
answer_to w text = (step w (Journal (offer_of text))).0

abbrev pub journal_of : Offered → Event
journal_of b = Journal (offer_of b.text)

-- what such a group answers to these batches, in turn, and its world behind them
abbrev pub answers_to : Sheet → Issuer → List Offered → List Reply
answers_to sheet issuer bs = (play (world_before sheet issuer) (map journal_of bs)).0

abbrev pub world_behind : Sheet → Issuer → List Offered → World
world_behind sheet issuer bs = (play (world_before sheet issuer) (map journal_of bs)).1

abbrev pub IsJournaled : Reply → Type 0
IsJournaled reply = (k : ℕ) × (reply ≡ Journaled k)

-- ---- what is told

-- The line that is told of a batch of the input which a world refuses: of its own fault, of its first record that breaks a rule of the
-- journals, or of its head.
abbrev pub told_of_offered : List ℕ → World → Offered → Refusal → List ℕ
told_of_offered input w b WorldFull = told_at (line_of input b) (words_of WorldFull)
told_of_offered input w b why = told_of_text (line_count (take b.from input)) w.sheet b.text (bad_index w.sheet w.journals b.text) why

-- The input is refused for its sections, or is too long, and this is told of its first fault there.
pub record IsRefusedBySections (input told : List ℕ) : Type 0 where
  pub fault : ScheduleFault
  pub refused : rate_input_in input ≡ Err fault
  pub is_told : line told ≡ said_of_fault input fault

-- The input is refused for the first of its batches that is not journaled behind those above it, and this is told of it.
pub record IsRefusedAt (input told : List ℕ) : Type 0 where
  pub given : RateInput
  pub is_given : rate_input_in input ≡ Ok given
  pub before : List Offered
  pub batch : Offered
  pub behind : List Offered
  pub all : batches_of (items_of input given) ≡ before ++ batch ∷ behind
  pub taken : All IsJournaled (answers_to given.sheet given.issuer before)
  pub why : Refusal
  pub refused : answer_to (world_behind given.sheet given.issuer before) batch.text ≡ Refused why
  pub is_told : line told ≡ told_of_offered input (world_behind given.sheet given.issuer before) batch why

-- The input is refused for the one or for the other, and this is told of it.
abbrev pub IsRefused : (input told : List ℕ) → Type 0
IsRefused input told = IsRefusedBySections input told ⊎ IsRefusedAt input told

-- The input is not refused so: its sections are read, and each of its batches is journaled behind those above it.
pub record IsTaken (input : List ℕ) : Type 0 where
  pub given : RateInput
  pub is_given : rate_input_in input ≡ Ok given
  pub taken : All IsJournaled (answers_to given.sheet given.issuer (batches_of (items_of input given)))
