-- Which record breaks a rule of the journals first.
use Rattle.std.specs.Prelude.{List, [], ◌∷◌, Option, Some, None}
use Rattle.metering_model.specs.Sheet.{Sheet}
use Rattle.metering_model.specs.Holding.{Holding, Placed, Position}
use Rattle.metering_model.specs.JournalRules.{broken_by}

-- the place of the first of these records that breaks a rule
abbrev pub first_bad : Sheet → Holding → List Placed → Option Position
first_bad sheet h [] = None
first_bad sheet h (x ∷ xs) = elim (broken_by sheet h x.place x.what) [ Some rule ↦ Some x.place | None ↦ first_bad sheet h xs ]
