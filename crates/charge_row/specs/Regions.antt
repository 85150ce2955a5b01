-- What a file calls a region.
use Rattle.std.specs.Prelude.{◌≡◌, ℕ, List, Option, option_map}
use Rattle.metering_model.specs.Sheet.{Sheet}
use Rattle.metering_model.specs.Row.{region_name_of}

-- The name is the sheet's of the region with that id, or the id itself where the sheet has none; where there is no id there is
-- no name.
abbrev pub IsNamed : Sheet → Option (List ℕ) → Option (List ℕ) → Type 0
IsNamed sheet id name = name ≡ option_map (region_name_of sheet) id
