-- How far one agent's batches are due.
use Rattle.std.specs.Prelude.{◌≡◌, ◌<◌, ◌≤◌, ℕ, ◌+◌, Bool, true, false, ℤ}
use Rattle.std.specs.List.{list_all}
use Rattle.std.specs.Option.{IsSomeAnd, option_map_or}
use Rattle.metering_model.specs.Holding.{Holding, held}
use Rattle.metering_model.specs.Front.{starts_before}

-- whether the batch is held, and each of its readings starts before the moment
abbrev pub is_due_by : ℤ → Holding → ℕ → ℕ → Bool
is_due_by moment h agent seq = option_map_or (λ b. list_all (starts_before moment) b.records) (held h agent seq) false

-- that it is so
abbrev pub StartsBefore : ℤ → Holding → ℕ → ℕ → Type 0
StartsBefore moment h agent seq = IsSomeAnd (held h agent seq) (λ b. list_all (starts_before moment) b.records ≡ true)

-- each batch above the one sequence and up to the other is held and starts before the moment, and the next one is not
pub record IsLastDue (moment : ℤ) (h : Holding) (agent after last : ℕ) : Type 0 where
  pub grows : after ≤ last
  pub due : (seq : ℕ) → after < seq → seq ≤ last → StartsBefore moment h agent seq
  pub next : StartsBefore moment h agent (last + 1) → ⊥
