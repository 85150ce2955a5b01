use Rattle.std.proofs.Common.{◌≡◌, ◌≤◌, ◌+◌, ◌-◌, ◌*◌, ◌++◌, flat_map, All}
use Rattle.focus_row.specs.Inner.Left.{IsWithin, rows_left, rows_of_place}
use Rattle.focus_row.proofs.between.BetweenCuts.places.Given as goal

-- The rows of the batches so far and those that are left are all.
abbrev pub invariant-loop-next_agent : goal.invariant-loop-next_agent
invariant-loop-next_agent l = record {
  agent_from : 1 ≤ l.agent;
  agent_to : l.agent ≤ 64;
  seq_from : 1 ≤ l.seq;
  seq_to : l.seq ≤ 1_000_001;
  within : All (IsWithin l.self) l.places.items;
  all : flat_map (rows_of_place l.self) l.places.items ++ rows_left l.self l.agent l.seq ≡ rows_left l.self 1 1;
}

abbrev pub decreases-loop-next_agent : goal.decreases-loop-next_agent
decreases-loop-next_agent l = 1_000_002 * 66 - (1_000_002 * l.agent + l.seq)
