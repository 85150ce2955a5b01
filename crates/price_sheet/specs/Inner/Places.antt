-- At which places of a sheet an index finds the rows of a SKU, or of an id.
use Rattle.std.specs.Prelude.{◌≡◌, ⊤, ℕ, true, ◌&&◌, if◌then◌else◌, List, [], filter, slice_get, find, Option, Some, None, is_some, ℤ, int_le, Vec}
use Rattle.std.specs.Map.{lookup}
use Rattle.std.specs.Str.{bytes_eq}
use Rattle.metering_model.specs.BatchReading.{is_same}
use Rattle.metering_model.specs.Sheet.{PriceRow}
use Rattle.metering_model.specs.PriceInForce.{latest}
use Rattle.price_sheet.specs.SheetReading.{prices_sku}
use Rattle.price_sheet.specs.declared.price_in_force.Start.{Start}
use Rattle.price_sheet.specs.Inner.Days.{rise, begun}

-- what a map from texts has under the text
abbrev pub found_at : {V Z : Type 0} → List ℕ → List (Vec ℕ Z × V) → Option V
found_at text entries = lookup (λ key. bytes_eq text key.items) entries

-- `new` has the value under the text, and under each other what `old` has
abbrev pub Puts : {V Z : Type 0} → List ℕ → V → List (Vec ℕ Z × V) → List (Vec ℕ Z × V) → Type 0
Puts text value old new = (other : List ℕ) → found_at other new ≡ (if is_same text other then Some value else found_at other old)

abbrev pub starts_of : Option (List Start) → List Start
starts_of None = []
starts_of (Some starts) = starts

-- the start is that of this row
abbrev pub Shows : List PriceRow → Option Start → Option PriceRow → Type 0
Shows rows None None = ⊤
Shows rows None (Some row) = ⊥
Shows rows (Some start) None = ⊥
Shows rows (Some start) (Some row) = (slice_get rows start.place ≡ Some row) × (start.day ≡ row.from)

-- these starts are those of the SKU's rows: there are some where a row prices it, and of those that have begun
-- on a day the last is that of the price in force
pub record AreStarts (rows : List PriceRow) (sku : List ℕ) (found : Option (List Start)) : Type 0 where
  pub priced : is_some found ≡ prices_sku rows sku
  pub rising : rise (starts_of found) ≡ true
  pub in_force : (day : ℤ) → Shows rows (begun day (starts_of found)) (latest (filter (λ r. is_same r.sku sku && int_le r.from day) rows))

-- the entries have the starts of each SKU
abbrev pub IndexesPrices : {Z : Type 0} → List PriceRow → List (Vec ℕ Z × List Start) → Type 0
IndexesPrices rows entries = (sku : List ℕ) → AreStarts rows sku (found_at sku entries)

-- the row stands at the place
abbrev pub StandsAt : {A : Type 0} → List A → Option ℕ → Option A → Type 0
StandsAt rows None None = ⊤
StandsAt rows None (Some row) = ⊥
StandsAt rows (Some place) None = ⊥
StandsAt rows (Some place) (Some row) = slice_get rows place ≡ Some row

-- the entries have the place of each row's id
abbrev pub IndexesBy : {A Z : Type 0} → (A → List ℕ) → List A → List (Vec ℕ Z × ℕ) → Type 0
IndexesBy id rows entries = (text : List ℕ) → StandsAt rows (found_at text entries) (find (λ x. is_same (id x) text) rows)
