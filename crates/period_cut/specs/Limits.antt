-- The limits of cuts.
use Rattle.std.specs.Prelude.{ℕ, ◌≤◌, List, length, All}
use Rattle.metering_model.specs.Limits.{most_agents, last_sequence}

-- 1 to 64 agents, and at most 1,000,000 batches of each
pub record IsCut (cut : List ℕ) : Type 0 where
  pub agents_from : 1 ≤ length cut
  pub agents_to : length cut ≤ most_agents
  pub entries : All (λ seq. seq ≤ last_sequence) cut
