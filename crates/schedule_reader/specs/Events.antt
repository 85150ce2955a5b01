-- What an event of a schedule stands for.
use Rattle.std.specs.Prelude.{◌≡◌, ◌+◌, ◌-◌, ◌≤◌, ℕ, List, [], length, ⊤}
use Rattle.std.specs.List.{slice_range}
use Rattle.metering_model.specs.BatchReading.{lines_in}
use Rattle.metering_model.specs.Schedule as model
use Rattle.schedule_reader.specs.declared.events.Planned.{Planned}
use Rattle.schedule_reader.specs.declared.events.Planned.TheVariants.{Journal, Deliver, Start, Restart, Export, Keep, Revive}

-- a journal and a revival by the lines of their texts
abbrev pub planned_of : Planned → model.Planned
planned_of (Journal text) = model.PlansJournal (lines_in text.now).lines
planned_of (Deliver packet node) = model.PlansDelivery packet node
planned_of (Start node) = model.PlansStart node
planned_of (Restart node) = model.PlansRestart node
planned_of (Export node period) = model.PlansExport node period
planned_of (Keep node) = model.PlansKeep node
planned_of (Revive node text) = model.PlansRevival node (lines_in text.now).lines

-- What is journaled, or revived from, is whole lines, each with its line feed.
abbrev pub HasWholeLines : Planned → Type 0
HasWholeLines (Journal text) = model.lines_text (lines_in text.now).lines ≡ text.now
HasWholeLines (Deliver packet node) = ⊤
HasWholeLines (Start node) = ⊤
HasWholeLines (Restart node) = ⊤
HasWholeLines (Export node period) = ⊤
HasWholeLines (Keep node) = ⊤
HasWholeLines (Revive node text) = model.lines_text (lines_in text.now).lines ≡ text.now

-- what is lent of a text for an event: nothing where it has no lines
abbrev pub lines_of : Planned → List ℕ
lines_of (Journal lines) = lines.now
lines_of (Deliver packet node) = []
lines_of (Start node) = []
lines_of (Restart node) = []
lines_of (Export node period) = []
lines_of (Keep node) = []
lines_of (Revive node lines) = lines.now

-- These lines end at a place of the text.
pub record EndsAt (text : List ℕ) (end : ℕ) (lines : List ℕ) : Type 0 where
  pub room : length lines ≤ end
  pub within : end ≤ length text
  pub are : slice_range text (end - length lines) end ≡ lines

-- The lines that are journaled stand in a text from this place on.
abbrev pub StandsFrom : List ℕ → ℕ → Planned → Type 0
StandsFrom text from (Journal lines) =
    (from + length lines.now ≤ length text) × (slice_range text from (from + length lines.now) ≡ lines.now)
StandsFrom text from (Deliver packet node) = ⊤
StandsFrom text from (Start node) = ⊤
StandsFrom text from (Restart node) = ⊤
StandsFrom text from (Export node period) = ⊤
StandsFrom text from (Keep node) = ⊤
StandsFrom text from (Revive node lines) = ⊤

-- events as they stand in a text
pub record EventsIn : Type 0 where
  pub planned : List model.Planned
  pub text : List ℕ
