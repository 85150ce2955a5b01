-- What is said of an input as one that is to have a schedule: a line for each thing that is wrong with it, and for each that is odd.
use Rattle.std.specs.Prelude.{◌≡◌, List, ℕ, [], ◌∷◌, ◌++◌, length, map, take, Option, Some, Ok, Err, slice_get}
use Rattle.metering_model.specs.Batch.{Batch}
use Rattle.metering_model.specs.RatedAlone.{world_before}
use Rattle.metering_model.specs.Step.{play, step}
use Rattle.metering_model.specs.Transcript.{line_count}
use Rattle.metering_model.specs.World.{World, Reply, Journaled, Refused}
use Rattle.batch_view.specs.Batches.{batch_of}
use Rattle.input_sections.specs.RateInput.{rate_input_in}
use Rattle.fault_lines.specs.Ahead.{ahead_of_all}
use Rattle.fault_lines.specs.Checked.{IsSaid}
use Rattle.fault_lines.specs.Told.{said_of_fault}
use Rattle.fault_lines.specs.UnknownKeys.{unknown_on}
use Rattle.schedule_writer.specs.Inputs.{Offered, batches_of, items_of}
use Rattle.schedule_writer.specs.Refusals.{IsJournaled, answer_to, journal_of, told_of_offered}

-- ---- what is wrong

-- of a batch by what a world answers to it
abbrev pub told_of_answer : List ℕ → World → Offered → Reply → List ℕ
told_of_answer input w b (Refused why) = told_of_offered input w b why
told_of_answer input w b other = []

-- of batches that are journaled in turn from a world on, of which those that are refused change nothing
abbrev pub told_of_batches : List ℕ → World → List Offered → List ℕ
told_of_batches input w [] = []
told_of_batches input w (b ∷ bs) = told_of_answer input w b (answer_to w b.text) ++ told_of_batches input (step w (journal_of b)).1 bs

-- the first fault of the sections alone, or each batch that a group of one node and 64 agents does not journal behind those above it
-- that it did journal
unfoldable pub said_of_input : List ℕ → List ℕ
said_of_input input =
    elim (rate_input_in input) [
      | Ok given ↦ told_of_batches input (world_before given.sheet given.issuer) (batches_of (items_of input given))
      | Err fault ↦ said_of_fault input fault
    ]

-- ---- what is odd

-- of a batch by what a world answers to it: where it is journaled it counts, behind as many lines of the input as stand above its head
abbrev pub if_journaled : List ℕ → Offered → Reply → List (ℕ × Batch)
if_journaled input b (Journaled k) = (line_count (take b.from input), batch_of b.text) ∷ []
if_journaled input b other = []

-- of batches that are journaled in turn from a world on, of which those that are refused change nothing
abbrev pub journaled_of : List ℕ → World → List Offered → List (ℕ × Batch)
journaled_of input w [] = []
journaled_of input w (b ∷ bs) = if_journaled input b (answer_to w b.text) ++ journaled_of input (step w (journal_of b)).1 bs

-- At that place among those that count stands one of these batches: it is journaled behind those above it, the lines are those above its
-- head, and as many count before it as do of the batches above it.
pub record IsJournaledAmong (input : List ℕ) (w : World) (bs : List Offered) (i lines : ℕ) (b : Batch) : Type 0 where
  pub before : List Offered
  pub batch : Offered
  pub behind : List Offered
  pub all : bs ≡ before ++ batch ∷ behind
  pub taken : IsJournaled (answer_to (play w (map journal_of before)).1 batch.text)
  pub are_lines : lines ≡ line_count (take batch.from input)
  pub is_batch : b ≡ batch_of batch.text
  pub place : i ≡ length (journaled_of input w before)

-- Just those count.
pub record CountsWhatIsJournaled (input : List ℕ) (w : World) (bs : List Offered) : Type 0 where
  pub each : (i lines : ℕ) (b : Batch) → slice_get (journaled_of input w bs) i ≡ Some (lines, b) → IsJournaledAmong input w bs i lines b
  pub every : (i lines : ℕ) (b : Batch) → IsJournaledAmong input w bs i lines b → slice_get (journaled_of input w bs) i ≡ Some (lines, b)

-- Where the sections are read, first the keys that no reader takes, and then the readings long after those of their agent above them, of the
-- batches that such a group does journal; else nothing.
unfoldable pub warned_of_input : List ℕ → List ℕ
warned_of_input input =
    elim (rate_input_in input) [
      | Ok given ↦ unknown_on 1 input ++ ahead_of_all [] (journaled_of input (world_before given.sheet given.issuer) (batches_of (items_of input given)))
      | Err fault ↦ []
    ]

-- ---- the whole

-- The texts are what is said of an input that is refused, and of what it is warned. The input is all that a reader gives, where its bytes
-- are known.
abbrev pub IsSaidOf : (known : Option (List ℕ)) → (input said warned : List ℕ) → Type 0
IsSaidOf = IsSaid said_of_input warned_of_input
