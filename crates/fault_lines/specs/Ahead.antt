-- Readings that start long after those of their agent above them: each makes the agent's later batches wait for its month.
use Rattle.std.specs.Prelude.{◌≡◌, ◌≤◌, ℕ, ◌+◌, ◌-◌, Bool, false, ◌==◌, if◌then◌else◌, List, [], ◌∷◌, ◌++◌, take, filter, Option, Some, None, ℤ, pos, ◌+ℤ◌, int_lt, codes}
use Rattle.std.specs.List.{flat_map, slice_get}
use Rattle.metering_model.specs.Batch.{Amends, Batch, Reading, Reads, Record}
use Rattle.metering_model.specs.Dates.{day_of}
use Rattle.metering_model.specs.Limits.{most_agents}
use Rattle.fault_lines.specs.Told.{told_at}

-- so many days after the latest start a reading may start, without a warning
abbrev pub most_days_ahead : ℕ
most_days_ahead = 366

-- the day in UTC on which a reading starts, by its number
abbrev pub start_day : Record → List ℤ
start_day (Reads r) = day_of r.start ∷ []
start_day (Amends seq index value) = []

-- those of an agent's batches
abbrev pub days_of : ℕ → List Batch → List ℤ
days_of agent batches = flat_map (λ b. flat_map start_day b.records) (filter (λ b. b.agent == agent) batches)

abbrev pub later : ℤ → Option ℤ → ℤ
later d None = d
later d (Some e) = if int_lt d e then e else d

abbrev pub latest : List ℤ → Option ℤ
latest [] = None
latest (d ∷ ds) = Some (later d (latest ds))

-- more than 366 days after that day, where there is one
abbrev pub is_ahead : Option ℤ → ℤ → Bool
is_ahead None d = false
is_ahead (Some e) d = int_lt (e +ℤ pos most_days_ahead) d

-- of a reading on a line, below readings that start on these days: the day on which it starts, as its text has it
abbrev pub told_of_reading : ℕ → List ℤ → Reading → List ℕ
told_of_reading n above r = if is_ahead (latest above) (day_of r.start) then told_at n (codes "ahead " ++ take 10 r.start_text) else []

abbrev pub told_of_record : ℕ → List ℤ → Record → List ℕ
told_of_record n above (Reads r) = told_of_reading n above r
told_of_record n above (Amends seq index value) = []

-- of records, the first of them on that line
unfoldable pub ahead_in : ℕ → List ℤ → List Record → List ℕ
ahead_in n above [] = []
ahead_in n above (r ∷ rs) = told_of_record n above r ++ ahead_in (n + 1) (start_day r ++ above) rs

-- of a batch that is journaled behind these batches, and so many lines of the input: its head stands on the next line
unfoldable pub ahead_of : List Batch → ℕ → Batch → List ℕ
ahead_of journaled lines b = ahead_in (lines + 2) (days_of b.agent journaled) b.records

-- of batches that are journaled in turn, each behind so many lines
unfoldable pub ahead_of_all : List Batch → List (ℕ × Batch) → List ℕ
ahead_of_all journaled [] = []
ahead_of_all journaled (p ∷ ps) = ahead_of journaled p.0 p.1 ++ ahead_of_all (p.1 ∷ journaled) ps

-- These are, agent by agent, the latest days of the readings in those batches.
abbrev pub AreLatest : List (Option ℤ) → List Batch → Type 0
AreLatest days journaled = (agent : ℕ) → 1 ≤ agent → agent ≤ most_agents → slice_get days (agent - 1) ≡ Some (latest (days_of agent journaled))
