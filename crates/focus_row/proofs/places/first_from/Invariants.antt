use Rattle.std.proofs.Common.{◌-◌, ◌≡◌, ℕ, ◌<◌, ◌≤◌, true, false, map, length, Some}
use Rattle.std.specs.Prelude.{slice_get}
use Rattle.metering_model.specs.Holding.{Position}
use Rattle.journal_rules.specs.Stores.{position_of, stands_before}
use Rattle.focus_row.proofs.places.first_from.Given as goal

-- What is before the low end stands before the place, and nothing from the high end on does.
abbrev pub invariant-loop-low : goal.invariant-loop-low
invariant-loop-low l = record {
  ordered : l.low ≤ l.high;
  within : l.high ≤ length l.places;
  before : (k : ℕ) (q : Position) → slice_get (map position_of l.places) k ≡ Some q → k < l.low → stands_before q (position_of l.place) ≡ true;
  behind : (k : ℕ) (q : Position) → slice_get (map position_of l.places) k ≡ Some q → l.high ≤ k → stands_before q (position_of l.place) ≡ false;
}

abbrev pub decreases-loop-low : goal.decreases-loop-low
decreases-loop-low l = l.high - l.low
