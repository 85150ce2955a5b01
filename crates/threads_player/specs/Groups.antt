-- The group that is run: how large it may be, and what its agents journal.
use Rattle.std.specs.Prelude.{ℕ, ◌+◌, ◌-◌, ◌*◌, ◌/◌, ◌≤◌, List, ◌++◌, map, codes}
use Rattle.std.specs.List.{range_with_len}
use Rattle.metering_model.specs.Dates.{day_text, stamp_text, time_text}
use Rattle.metering_model.specs.Transcript.{line, with_number}
use Rattle.threads_player.specs.declared.sizes.Size.{Size}

-- how many nodes, agents and batches of each may be asked for, and how many of the months of 2025
abbrev pub most_run_nodes : ℕ
most_run_nodes = 9

abbrev pub most_run_agents : ℕ
most_run_agents = 9

abbrev pub most_run_batches : ℕ
most_run_batches = 99

abbrev pub most_run_periods : ℕ
most_run_periods = 12

pub record IsSize (size : Size) : Type 0 where
  pub nodes_from : 1 ≤ size.nodes
  pub nodes_to : size.nodes ≤ most_run_nodes
  pub agents_from : 1 ≤ size.agents
  pub agents_to : size.agents ≤ most_run_agents
  pub batches_from : 1 ≤ size.batches
  pub batches_to : size.batches ≤ most_run_batches
  pub periods_from : 1 ≤ size.periods
  pub periods_to : size.periods ≤ most_run_periods

-- the month of 2025, counted from 1, in which an agent's batch of that sequence falls due: as many for each period, as far
-- as they go
abbrev pub month_of : Size → ℕ → ℕ
month_of size seq = 1 + (seq - 1) * size.periods / size.batches

-- an hour of the first day of a month of 2025
abbrev pub hour_text : ℕ → ℕ → List ℕ
hour_text month hour = stamp_text (day_text 2025 month 1) (time_text hour 0 0)

-- one reading, of as many hours of a virtual CPU as the sequence says
abbrev pub reading_text : (agent seq month : ℕ) → List ℕ
reading_text agent seq month =
    codes "U|" ++ hour_text month 0 ++ codes "|" ++ hour_text month 1 ++ with_number (codes "|acc-") agent ++ with_number (codes "|vm-") agent ++ with_number (codes "|cpu|") (3600 * seq) ++ codes "||"

abbrev pub batch_text : Size → (agent seq : ℕ) → List ℕ
batch_text size agent seq =
    line (with_number (codes "B1|") agent ++ with_number (codes "|") seq ++ codes "|1") ++ line (reading_text agent seq (month_of size seq))

-- the texts of each agent's batches; agents and batches are numbered from 1
abbrev pub journals_of : Size → List (List (List ℕ))
journals_of size = map (λ agent. map (batch_text size agent) (range_with_len 1 size.batches)) (range_with_len 1 size.agents)
