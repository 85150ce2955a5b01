-- Places in order, by agent, then by sequence, then by index.
use Rattle.std.specs.Prelude.{◌≡◌, ℕ, ◌≤◌, ◌<◌, true, false, List, length, Some, slice_get}
use Rattle.std.specs.List.{Contains}
use Rattle.metering_model.specs.Holding.{Position}
use Rattle.journal_rules.specs.Stores.{stands_before}

-- The places before an index stand before this one, and no later one does.
pub record IsFirstFrom (ps : List Position) (p : Position) (at : ℕ) : Type 0 where
  pub within : at ≤ length ps
  pub before : (k : ℕ) (q : Position) → slice_get ps k ≡ Some q → k < at → stands_before q p ≡ true
  pub behind : (k : ℕ) (q : Position) → slice_get ps k ≡ Some q → at ≤ k → stands_before q p ≡ false

-- The agent has a place in that batch, and none from the sequence `seq` on in an earlier one.
pub record IsNextNamed (ps : List Position) (agent seq next : ℕ) : Type 0 where
  pub place : Position
  pub named : Contains ps place
  pub of_agent : place.agent ≡ agent
  pub of_batch : place.seq ≡ next
  pub not_before : seq ≤ next
  pub least : (p : Position) → Contains ps p → p.agent ≡ agent → seq ≤ p.seq → next ≤ p.seq

-- The agent has no place from the sequence on.
pub record NoneNamed (ps : List Position) (agent seq : ℕ) : Type 0 where
  pub none : (p : Position) → Contains ps p → p.agent ≡ agent → seq ≤ p.seq → ⊥
