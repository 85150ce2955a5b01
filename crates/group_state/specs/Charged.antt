-- How far the file of a period goes: as far as the journals and its month let.
use Rattle.std.specs.Prelude.{◌≡◌, ℕ, length, Ok}
use Rattle.metering_model.specs.Front.{front}
use Rattle.metering_model.specs.World.{World, Snapshot}
use Rattle.metering_model.specs.Step.{snapshot}

-- From the cut before on it has of each agent all batches that are journaled, up to the first that is not due in the month.
pub record IsAllDue (w : World) (taken : Snapshot) : Type 0 where
  pub agents : length taken.from ≡ w.agents
  pub to : taken.to ≡ front w.sheet.base w.journals taken.from taken.period

-- The node has learned the period, lacks nothing of it, and its file is such a one.
pub record ChargesAll (w : World) (node period : ℕ) : Type 0 where
  pub taken : Snapshot
  pub answered : snapshot w node period ≡ Ok taken
  pub all : IsAllDue w taken
