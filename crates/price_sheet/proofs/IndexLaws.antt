-- The index of prices, with one row more.
use Rattle.std.proofs.Common.{◌≡◌, ℕ, Bool, true, false, List, [], ◌∷◌, ◌++◌, length, Some, Vec, if◌then◌else◌, refl, sym, subst}
use Rattle.metering_model.specs.BatchReading.{is_same}
use Rattle.metering_model.specs.Sheet.{PriceRow}
use Rattle.price_sheet.specs.declared.price_in_force.Start.{Start}
use Rattle.price_sheet.specs.Inner.Days.{with_start}
use Rattle.price_sheet.specs.Inner.Places.{found_at, starts_of, Puts, AreStarts, IndexesPrices}
use Rattle.price_sheet.proofs.PlaceLaws.{same_texts}
use Rattle.price_sheet.proofs.RowLaws.{own_starts, others_starts}

pub one_more_row : {Z : Type 0} (rows : List PriceRow) (row : PriceRow) (place : ℕ) (old new : List (Vec ℕ Z × List Start)) → place ≡ length rows → IndexesPrices rows old
    → Puts row.sku (with_start (starts_of (found_at row.sku old)) (record { day = row.from; place = place })) old new → IndexesPrices (rows ++ row ∷ []) new
one_more_row rows row place old new at indexed puts sku = subst (AreStarts (rows ++ row ∷ []) sku) (sym (puts sku)) (by (is_same row.sku sku) refl)
  where
    by : (b : Bool) → is_same row.sku sku ≡ b → AreStarts (rows ++ row ∷ []) sku (if b then Some (with_start (starts_of (found_at row.sku old)) (record { day = row.from; place = place })) else found_at sku old)
    by true same = own_starts rows row sku place (found_at row.sku old) same at (subst (λ t. AreStarts rows t (found_at row.sku old)) (same_texts row.sku sku same) (indexed row.sku))
    by false other = others_starts rows row sku (found_at sku old) other (indexed sku)
