-- What the readings of a new batch are worth as of the later cut.
use Rattle.std.specs.Prelude.{◌<◌, ℕ, ℤ, List, Option}
use Rattle.metering_model.specs.Cut.{last_of}
use Rattle.journal_rules.specs.Stores.{AreAmendedValues}
use Rattle.focus_row.specs.Inner.Left.{Between}

-- Where an agent's batch is above the earlier cut, they stand for what its readings are worth as of the later one.
abbrev pub AreNewValues : Between → ℕ → ℕ → List (Option ℤ) → Type 0
AreNewValues b agent seq values = last_of b.from agent < seq → AreAmendedValues b.batches agent seq (last_of b.to agent) values
