-- Which snapshots have a file.
use Rattle.std.specs.Prelude.{◌≡◌, None}
use Rattle.metering_model.specs.Cut.{IsAtLeast}
use Rattle.metering_model.specs.Holding.{up_to}
use Rattle.metering_model.specs.JournalRules.{MeetsJournalRules}
use Rattle.metering_model.specs.Step.{first_missing}
use Rattle.metering_model.specs.World.{Snapshot}

-- The cut grows from the one before. Just the batches up to it are there, none of them is missing, and they meet the rules of
-- the journals.
pub record IsExportable (s : Snapshot) : Type 0 where
  pub grows : IsAtLeast s.to s.from
  pub whole : first_missing s.batches s.to ≡ None
  pub met : MeetsJournalRules s.sheet s.batches
  pub within : up_to s.to s.batches ≡ s.batches
