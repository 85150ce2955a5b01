-- Which price holds on a day, which commitment has an id, and which name a region has.
use Rattle.std.specs.Prelude.{◌&&◌, if◌then◌else◌, List, [], ◌∷◌, ℕ, ℤ, Option, Some, None, int_le, int_lt, filter, find, option_map}
use Rattle.metering_model.specs.BatchReading.{is_same}
use Rattle.metering_model.specs.Sheet.{PriceRow, Commitment, Region, Sheet}

-- the row of the later `from`, the first of two equal ones
abbrev pub later_of : PriceRow → Option PriceRow → Option PriceRow
later_of r None = Some r
later_of r (Some s) = if int_lt r.from s.from then Some s else Some r

abbrev pub latest : List PriceRow → Option PriceRow
latest [] = None
latest (r ∷ rs) = later_of r (latest rs)

-- of the SKU's prices that have begun on the day, the one that began last
abbrev pub price_in_force : Sheet → List ℕ → ℤ → Option PriceRow
price_in_force sheet sku day = latest (filter (λ r. is_same r.sku sku && int_le r.from day) sheet.prices)

abbrev pub commitment_with : Sheet → List ℕ → Option Commitment
commitment_with sheet id = find (λ c. is_same c.id id) sheet.commitments

abbrev pub region_with : Sheet → List ℕ → Option Region
region_with sheet id = find (λ x. is_same x.id id) sheet.regions

-- the name that the sheet gives a region, where it gives one
abbrev pub region_named : Sheet → List ℕ → Option (List ℕ)
region_named sheet id = option_map (λ x. x.name) (region_with sheet id)
