-- What a store is, and what is asked of it.
use Rattle.std.specs.Prelude.{◌≡◌, ℕ, ℤ, unwrap_or, slice_index_or, ◌≤◌, ◌&&◌, ◌||◌, ◌==◌, Bool, true, nat_lt, nat_le, if◌then◌else◌, List, [], ◌∷◌, All, IsTrue, Option, Some, None, ◌↔◌}
use Rattle.std.specs.List.{filter_map, Contains}
use Rattle.metering_model.specs.Batch.{Reading, Record, Reads, Amends}
use Rattle.metering_model.specs.Cut.{Cut, last_of}
use Rattle.metering_model.specs.Holding.{Holding, IsHolding, Position, reading_at, records_in_order}
use Rattle.metering_model.specs.ValueAtSequence.{value_at}
use Rattle.metering_model.specs.Limits.{most_agents}
use Rattle.batch_store.specs.declared.RecordPlace.{RecordPlace}

-- the number of agents, and their batches
pub record Stored : Type 0 where
  pub agents : ℕ
  pub batches : Holding

-- 1 to 64 agents, and a holding of batches of theirs alone
pub record IsStored (s : Stored) : Type 0 where
  pub agents_from : 1 ≤ s.agents
  pub agents_to : s.agents ≤ most_agents
  pub is_holding : IsHolding s.batches
  pub of_agents : All (λ b. b.agent ≤ s.agents) s.batches

-- the position that an amendment between two cuts names, where a reading up to the earlier cut may stand there
abbrev pub named_by : Cut → Cut → Position → Record → Option Position
named_by from to at (Reads r) = None
named_by from to at (Amends seq index value) =
    if nat_lt (last_of from at.agent) at.seq && nat_le at.seq (last_of to at.agent) && nat_le seq (last_of from at.agent)
    then Some (record { agent = at.agent; seq = seq; index = index })
    else None

-- the positions up to the cut `from` that amendments above it and up to the cut `to` name, as often as they do
abbrev pub named_between : Holding → Cut → Cut → List Position
named_between h from to = filter_map (λ x. named_by from to x.place x.what) (records_in_order h)

-- by agent, then by sequence, then by index
abbrev pub stands_before : Position → Position → Bool
stands_before p q =
    nat_lt p.agent q.agent
    || ((p.agent == q.agent) && (nat_lt p.seq q.seq || ((p.seq == q.seq) && nat_lt p.index q.index)))

-- each stands before the next
abbrev pub rise : List Position → Bool
rise [] = true
rise (p ∷ []) = true
rise (p ∷ q ∷ ps) = stands_before p q && rise (q ∷ ps)

-- Each of those positions once, rising.
pub record AreAmended (h : Holding) (from to : Cut) (ps : List Position) : Type 0 where
  pub each : (p : Position) → Contains ps p ↔ Contains (named_between h from to) p
  pub in_order : IsTrue (rise ps)

-- a place without its number types
abbrev pub position_of : RecordPlace → Position
position_of p = record { agent = p.agent; seq = p.seq; index = p.index }

-- For each reading of that batch the value at its index, or else its own, is what it is worth as of `upto`.
abbrev pub AreAmendedValues : Holding → ℕ → ℕ → ℕ → List (Option ℤ) → Type 0
AreAmendedValues h agent seq upto values =
    (index : ℕ) (r : Reading) → reading_at h (record { agent = agent; seq = seq; index = index }) ≡ Some r
    → unwrap_or (slice_index_or values index None) r.value ≡ value_at h (record { agent = agent; seq = seq; index = index }) upto
