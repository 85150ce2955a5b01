-- The regions that two sheets do not name alike, in order.
use Rattle.std.specs.Prelude.{ℕ, Bool, true, false, not, List, ◌++◌, map, filter, Option, Some, None}
use Rattle.std.specs.Option.{is_some}
use Rattle.metering_model.specs.BatchReading.{is_same}
use Rattle.metering_model.specs.Sheet.{Region, Sheet}
use Rattle.metering_model.specs.PriceInForce.{region_named}

abbrev pub is_same_name : Option (List ℕ) → Option (List ℕ) → Bool
is_same_name (Some x) (Some y) = is_same x y
is_same_name (Some x) None = false
is_same_name None (Some y) = false
is_same_name None None = true

abbrev pub is_named_otherwise : Sheet → Sheet → Region → Bool
is_named_otherwise old new x = not (is_same_name (region_named new x.id) (region_named old x.id))

abbrev pub is_added : Sheet → Region → Bool
is_added old x = not (is_some (region_named old x.id))

abbrev pub ids_of : List Region → List (List ℕ)
ids_of rows = map (λ x. x.id) rows

-- those of the old sheet that the new one names otherwise, then those that the new one alone has
abbrev pub unlike_regions : Sheet → Sheet → List (List ℕ)
unlike_regions old new = ids_of (filter (is_named_otherwise old new) old.regions) ++ ids_of (filter (is_added old) new.regions)
