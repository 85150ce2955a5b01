-- What is listed, as it is put together.
use Rattle.std.specs.Prelude.{ℕ, List, ℤ}
use Rattle.sheet_changes.specs.FieldChanges.{PriceDay}
use denote.Ref.{Bor}

-- a SKU and a day as they are sorted
abbrev pub day_of_pair : Bor (List ℕ) × ℤ → PriceDay
day_of_pair p = record { sku = p.0.now; day = p.1 }
