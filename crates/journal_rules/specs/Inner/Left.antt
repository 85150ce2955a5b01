-- The batches up to a cut from an agent's sequence on, and the first rule that these break.
use Rattle.std.specs.Prelude.{ℕ, ◌||◌, ◌&&◌, ◌==◌, Bool, nat_lt, nat_le, List, map, filter, Option}
use Rattle.std.specs.List.{enumerate_from}
use Rattle.metering_model.specs.Batch.{Batch, Record}
use Rattle.metering_model.specs.Sheet.{Sheet}
use Rattle.metering_model.specs.Cut.{Cut}
use Rattle.metering_model.specs.Holding.{Holding, Placed, up_to, records_in_order}
use Rattle.metering_model.specs.declared.BrokenRule.{BrokenRule}
use Rattle.metering_model.specs.JournalRules.{first_broken}

-- whether the batch is the agent's at the sequence, or comes behind that
abbrev pub is_from : ℕ → ℕ → Batch → Bool
is_from agent seq b = nat_lt agent b.agent || ((b.agent == agent) && nat_le seq b.seq)

abbrev pub left : ℕ → ℕ → Holding → Holding
left agent seq h = filter (is_from agent seq) h

-- the records of an agent's batch from an index on, placed
abbrev pub placed_from : ℕ → ℕ → ℕ → List Record → List Placed
placed_from agent seq index rs =
    map (λ e. record { place = record { agent = agent; seq = seq; index = e.0 }; what = e.1 }) (enumerate_from index rs)

-- the first rule that the batches up to a cut break from an agent's sequence on
unfoldable pub broken_left : Sheet → Holding → Cut → ℕ → ℕ → Option BrokenRule
broken_left sheet h cut agent seq = first_broken sheet h (records_in_order (left agent seq (up_to cut h)))
