use Rattle.std.proofs.Common.{◌≡◌, ℕ, List, ◌++◌, map, take}
use Rattle.sheet_changes.specs.FieldChanges.{ListsPrices}
use Rattle.sheet_changes.specs.Inner.Listed.{day_of_pair}
use Rattle.sheet_changes.proofs.listings.put_prices.Given as goal

abbrev pub invariant-loop-at : goal.invariant-loop-at
invariant-loop-at l = (prices : List ℕ) × ListsPrices l.old l.new (map day_of_pair (take l.at-index l.days)) prices × (l.text.items ≡ l.fn.text.items ++ prices)
