-- A batch that is rated by itself: journaled in a world where nothing has happened, and charged as far as it can be closed.
use Rattle.std.specs.Prelude.{ℕ, List, [], Result, Ok}
use Rattle.metering_model.specs.Limits.{most_agents}
use Rattle.metering_model.specs.FirstFailure.{◌>>=◌}
use Rattle.metering_model.specs.Batch.{Batch}
use Rattle.metering_model.specs.BatchReading.{batch_in}
use Rattle.metering_model.specs.declared.Refusal.{Refusal}
use Rattle.metering_model.specs.Sheet.{Sheet, Issuer}
use Rattle.metering_model.specs.Cut.{Cut, zero_cut}
use Rattle.metering_model.specs.Holding.{put}
use Rattle.metering_model.specs.Front.{front}
use Rattle.metering_model.specs.Row.{Row}
use Rattle.metering_model.specs.Rows.{PlacedRow, placed_rows, rows}
use Rattle.metering_model.specs.World.{World, opening}
use Rattle.metering_model.specs.Step.{or_bad_batch, on_batch}
use Rattle.metering_model.specs.File.{file}

-- a world of one node and 64 agents
abbrev pub world_before : Sheet → Issuer → World
world_before sheet issuer = opening 1 0 most_agents sheet issuer

-- the batch that a text is, where that world journals it, or why it doesn't
unfoldable pub journaled_in : Sheet → Issuer → List ℕ → Result Batch Refusal
journaled_in sheet issuer text = do
  b ← or_bad_batch (batch_in text)
  _ ← on_batch (world_before sheet issuer) b
  Ok b

-- how far the journals that have the batch and no other can be closed for a period
abbrev pub front_alone : Sheet → Batch → ℕ → Cut
front_alone sheet b period = front sheet.base (put [] b) (zero_cut most_agents) period

-- the rows of a batch in a period, from the zero cut to there
abbrev pub rows_alone : Sheet → Issuer → Batch → ℕ → List Row
rows_alone sheet issuer b period = rows sheet issuer (put [] b) period (zero_cut most_agents) (front_alone sheet b period)

abbrev pub placed_rows_alone : Sheet → Issuer → Batch → ℕ → List PlacedRow
placed_rows_alone sheet issuer b period = placed_rows sheet issuer (put [] b) period (zero_cut most_agents) (front_alone sheet b period)

-- the file of these rows, or the first refusal
abbrev pub file_by : Sheet → Issuer → ℕ → List ℕ → Result (List ℕ) Refusal
file_by sheet issuer period text = do
  b ← journaled_in sheet issuer text
  Ok (file (rows_alone sheet issuer b period))
