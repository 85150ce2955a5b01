-- How far a holding can be closed for a billing period.
use Rattle.std.specs.Prelude.{◌≡◌, ◌<◌, ◌≤◌, ℕ, ◌+◌, ◌-◌, Bool, true, false, length, map, filter, fold, max, ℤ, int_lt}
use Rattle.std.specs.List.{list_all, range_with_len}
use Rattle.std.specs.Option.{option_map_or, IsSomeAnd}
use Rattle.metering_model.specs.Batch.{Batch, Record, Reads, Amends}
use Rattle.metering_model.specs.Dates.{period_end}
use Rattle.metering_model.specs.Cut.{Cut, last_of}
use Rattle.metering_model.specs.Holding.{Holding, held, sequences_of}

abbrev pub starts_before : ℤ → Record → Bool
starts_before moment (Reads r) = int_lt r.start moment
starts_before moment (Amends seq index value) = true

-- each reading in the batch starts before the end of the period
abbrev pub is_due : ℕ → ℕ → Batch → Bool
is_due base period b = list_all (starts_before (period_end base period)) b.records

-- the batch is held, and due for the period
abbrev pub IsDueAt : ℕ → ℕ → Holding → ℕ → ℕ → Type 0
IsDueAt base period h agent seq = IsSomeAnd (held h agent seq) (λ b. is_due base period b ≡ true)

-- each batch above the one cut and up to the other is held, and due for the period
abbrev pub AreDueBetween : ℕ → ℕ → Holding → Cut → Cut → Type 0
AreDueBetween base period h from to =
    (agent seq : ℕ) → last_of from agent < seq → seq ≤ last_of to agent → IsDueAt base period h agent seq

-- all batches of an agent behind one sequence and up to another are held and due
abbrev pub can_close : ℕ → ℕ → Holding → ℕ → ℕ → ℕ → Bool
can_close base period h agent after upto =
    list_all (λ s. option_map_or (is_due base period) (held h agent s) false) (range_with_len (after + 1) (upto - after))

-- the greatest such sequence, or the cut's own where there is none above it
abbrev pub front_of : ℕ → ℕ → Holding → ℕ → ℕ → ℕ
front_of base period h agent after = fold max after (filter (can_close base period h agent after) (sequences_of agent h))

abbrev pub front : ℕ → Holding → Cut → ℕ → Cut
front base h cut period = map (λ agent. front_of base period h agent (last_of cut agent)) (range_with_len 1 (length cut))
