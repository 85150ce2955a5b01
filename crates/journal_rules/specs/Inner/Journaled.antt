-- What a store has with one batch more.
use Rattle.std.specs.Prelude.{ℕ, [], Option, Some, None}
use Rattle.metering_model.specs.Batch.{Batch}
use Rattle.metering_model.specs.Holding.{Holding}
use Rattle.metering_model.specs.Limits.{most_agents}
use Rattle.batch_store.specs.Stores.{Stored}

-- what a store has, and where there is none the 64 agents that a batch may be of, without batches
abbrev pub stored_in : Option Stored → Stored
stored_in (Some s) = s
stored_in None = record { agents = most_agents; batches = [] }

-- the number of agents, the journals that have the batch too, and the batch
pub record WithBatch : Type 0 where
  pub agents : ℕ
  pub batches : Holding
  pub batch : Batch
