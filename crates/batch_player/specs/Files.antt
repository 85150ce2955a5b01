-- Which files are rendered.
use Rattle.std.specs.Prelude.{◌≡◌, ℕ, length, None}
use Rattle.metering_model.specs.Cut.{Cut, IsAtLeast}
use Rattle.metering_model.specs.Holding.{Holding, up_to}
use Rattle.metering_model.specs.JournalRules.{MeetsJournalRules}
use Rattle.metering_model.specs.Sheet.{Sheet}
use Rattle.metering_model.specs.Step.{first_missing}

-- The later cut is one of so many agents, and has of each what the earlier has. Up to it no batch is missing, and those that are
-- there meet the rules of the journals.
pub record MayBeCharged (sheet : Sheet) (count : ℕ) (batches : Holding) (from to : Cut) : Type 0 where
  pub agents : length to ≡ count
  pub grows : IsAtLeast to from
  pub whole : first_missing batches to ≡ None
  pub met : MeetsJournalRules sheet (up_to to batches)
