-- When a cut is chosen. Paxos Made Simple: a value is chosen once a majority of acceptors has accepted it at one ballot.
use Rattle.std.specs.Prelude.{ℕ, ◌≤◌, Bool, false, ◌&&◌, ◌==◌, count_by}
use Rattle.std.specs.List.{list_any, range_with_len}
use Rattle.metering_model.specs.BatchReading.{is_same}
use Rattle.metering_model.specs.Cut.{Cut}
use Rattle.metering_model.specs.Ballot.{majority}
use Rattle.metering_model.specs.World.{Packet, Accepted, World, voter_count}

abbrev pub accepts : ℕ → ℕ → ℕ → Cut → Packet → Bool
accepts node period ballot cut (Accepted from p b c) = (from == node) && (p == period) && (b == ballot) && is_same c cut
accepts node period ballot cut _ = false

-- how many different voters have sent that they accept the cut at the ballot
abbrev pub count_accepting : World → ℕ → ℕ → Cut → ℕ
count_accepting w period ballot cut = count_by (λ node. list_any (accepts node period ballot cut) w.packets) (range_with_len 0 (voter_count w))

pub record IsChosen (w : World) (period : ℕ) (cut : Cut) : Type 0 where
  pub ballot : ℕ
  pub by_majority : majority (voter_count w) ≤ count_accepting w period ballot cut
