-- A row of batches in parts that are shared.
use Rattle.std.specs.Prelude.{◌≡◌, ℕ, zero, suc, ◌<◌, ◌≤◌, List, [], ◌∷◌, ◌++◌, length}
use Rattle.std.specs.List.{flat_map, AllByRecursion, AllZip}
use Rattle.std.specs.declared.sync.Arc.{Arc}
use Rattle.std.specs.declared.alloc.Global.{Global}
use Rattle.std.specs.declared.vec.Vec.{Vec}
use Rattle.std.specs.Arc.{arc_value}
use Rattle.metering_model.specs.Limits.{last_sequence}
use Rattle.batch_store.specs.Inner.Shelves.{Shared}

-- a part of batches, which is shared
abbrev pub Part : Type 0
Part = Arc (Vec Shared Global) Global

abbrev pub batches_in : Part → List Shared
batches_in p = (arc_value p).items

-- the batches of the parts, and those behind them
abbrev pub in_parts : List Part → List Shared → List Shared
in_parts parts last = flat_map batches_in parts ++ last

-- each part has 64 batches
abbrev pub AreFull : List Part → Type 0
AreFull parts = AllByRecursion (λ p. length (batches_in p) ≡ 64) parts

pub record IsRow (parts : List Part) (last : List Shared) (many : ℕ) : Type 0 where
  pub full : AreFull parts
  pub few : length last < 64
  pub count : many ≡ length (in_parts parts last)
  pub short : length (in_parts parts last) ≤ last_sequence

-- the batches of the part with that number, or those behind the parts
abbrev pub part_at : List Part → List Shared → ℕ → List Shared
part_at [] last n = last
part_at (p ∷ parts) last zero = batches_in p
part_at (p ∷ parts) last (suc n) = part_at parts last n

-- the same batches, each perhaps shared by another hand
abbrev pub AreClones : List Shared → List Shared → Type 0
AreClones xs ys = AllZip (λ a b. arc_value b ≡ arc_value a) xs ys
