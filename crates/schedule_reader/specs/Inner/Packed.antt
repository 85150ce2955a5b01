-- An event from what is kept of it, and the text.
use Rattle.std.specs.Prelude.{◌≡◌, ℕ, ◌≤◌, List, length, ⊤}
use Rattle.std.specs.List.{slice_range}
use Rattle.metering_model.specs.BatchReading.{lines_in}
use Rattle.metering_model.specs.Schedule as model
use Rattle.schedule_reader.specs.declared.packed.Packed.{Packed}
use Rattle.schedule_reader.specs.declared.packed.Packed.TheVariants.{Journal, Deliver, Start, Restart, Export, Keep, Revive}

-- the event of which this is kept
abbrev pub unpacked : List ℕ → Packed → model.Planned
unpacked text (Journal from to) = model.PlansJournal (lines_in (slice_range text from to)).lines
unpacked text (Deliver packet node) = model.PlansDelivery packet node
unpacked text (Start node) = model.PlansStart node
unpacked text (Restart node) = model.PlansRestart node
unpacked text (Export node period) = model.PlansExport node period
unpacked text (Keep node) = model.PlansKeep node
unpacked text (Revive node from to) = model.PlansRevival node (lines_in (slice_range text from to)).lines

-- whole lines, each with its line feed, stand between these places of the text
abbrev pub AreLinesAt : List ℕ → ℕ → ℕ → Type 0
AreLinesAt text from to =
    (from ≤ to) × (to ≤ length text) × (model.lines_text (lines_in (slice_range text from to)).lines ≡ slice_range text from to)

-- What is journaled, or revived from, is whole lines of the text.
abbrev pub IsPackedIn : List ℕ → Packed → Type 0
IsPackedIn text (Journal from to) = AreLinesAt text from to
IsPackedIn text (Deliver packet node) = ⊤
IsPackedIn text (Start node) = ⊤
IsPackedIn text (Restart node) = ⊤
IsPackedIn text (Export node period) = ⊤
IsPackedIn text (Keep node) = ⊤
IsPackedIn text (Revive node from to) = AreLinesAt text from to
