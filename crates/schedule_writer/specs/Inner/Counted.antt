-- The batches that count for what is warned of, one by one.
use Rattle.std.specs.Prelude.{ℕ, List, [], ◌∷◌}
use Rattle.metering_model.specs.Batch.{Batch}
use Rattle.metering_model.specs.World.{Event, Journal, Good}
use Rattle.batch_view.specs.Batches.{batch_of}

-- the batch that an event hands in, behind so many lines
abbrev pub handed_in : ℕ → Event → List (ℕ × Batch)
handed_in lines (Journal (Good text)) = (lines, batch_of text) ∷ []
handed_in lines event = []

-- the batches that were journaled, the last of them first, above those that were before
abbrev pub with_journaled : List (ℕ × Batch) → List Batch → List Batch
with_journaled [] before = before
with_journaled (p ∷ ps) before = with_journaled ps (p.1 ∷ before)
