-- What is listed of an old sheet and a new one, a line for each field in which they differ.
use Rattle.std.specs.Prelude.{◌≡◌, ℕ, true, if◌then◌else◌, List, [], ◌∷◌, ◌++◌, map, Option, Some, None, All, ℤ, pos, ◌<ℤ◌, codes, decimal}
use Rattle.std.specs.Cmp.Lexicographic.{slice_cmp}
use Rattle.std.specs.List.{Contains, flat_map, join_with_byte}
use Rattle.std.specs.Option.{is_some}
use Rattle.std.specs.List.Sorted.{IsStrictlySortedBy}
use Rattle.std.specs.declared.cmp.Ordering.{Ordering}
use Rattle.std.specs.Ordering.{int_cmp, nat_cmp, ordering_then}
use Rattle.metering_model.specs.BatchReading.{is_same}
use Rattle.metering_model.specs.Dates.{IsDayText}
use Rattle.metering_model.specs.NumberText.{spelling}
use Rattle.metering_model.specs.PriceInForce.{commitment_with, price_in_force, region_named}
use Rattle.metering_model.specs.Sheet.{Commitment, PriceRow, Sheet, commitment_category_text, service_category_text}
use Rattle.metering_model.specs.Transcript.{line}
use Rattle.sheet_text.specs.Names.{key_name}
use Rattle.sheet_text.specs.declared.names.Key.{Key}
use Rattle.sheet_text.specs.declared.names.Key.TheVariants as keys

-- ---- a line

-- Texts joined by one tab, which no text of a sheet can hold.
abbrev pub tabbed : List (List ℕ) → List ℕ
tabbed parts = line (join_with_byte 9 parts)

-- what is said of a side, and nothing where there is none
abbrev pub part : {A : Type 0} → (A → List ℕ) → Option A → List ℕ
part said None = []
part said (Some x) = said x

-- behind what names it, what the old side says and what the new one does, if these differ
abbrev pub changed : List (List ℕ) → List ℕ → List ℕ → List ℕ
changed named old new = if is_same old new then [] else tabbed (named ++ old ∷ new ∷ [])

-- so under each of these keys
abbrev pub changed_keys : {A : Type 0} → (Key → A → List ℕ) → List (List ℕ) → List Key → Option A → Option A → List ℕ
changed_keys said named keys old new = flat_map (λ key. changed (named ++ key_name key ∷ []) (part (said key) old) (part (said key) new)) keys

-- ---- prices

-- the keys of a price, in the order of the sheet's, but for the SKU and the day, which name it
abbrev pub price_keys : List Key
price_keys = keys.PriceId ∷ keys.Description ∷ keys.Service ∷ keys.Category ∷ keys.ConsumedUnit ∷ keys.PricingUnit ∷ keys.Per ∷ keys.List ∷ keys.Contracted ∷ []

-- what a sheet says under such a key
abbrev pub price_text : Key → PriceRow → List ℕ
price_text keys.PriceId p = p.price_id
price_text keys.Description p = p.description
price_text keys.Service p = p.service
price_text keys.Category p = service_category_text p.category
price_text keys.ConsumedUnit p = p.consumed_unit
price_text keys.PricingUnit p = p.pricing_unit
price_text keys.Per p = decimal p.per
price_text keys.List p = spelling 6 (pos p.list)
price_text keys.Contracted p = spelling 6 (pos p.contracted)
price_text other p = []

-- A SKU, and a day on which a price of it begins.
pub record PriceDay : Type 0 where
  pub sku : List ℕ
  pub day : ℤ

abbrev pub price_day : PriceRow → PriceDay
price_day p = record { sku = p.sku; day = p.from }

-- by the bytes of the SKU, and then by the day
abbrev pub price_day_cmp : PriceDay → PriceDay → Ordering
price_day_cmp a b = ordering_then (slice_cmp nat_cmp a.sku b.sku) (int_cmp a.day b.day)

-- what is in force on such a day, whose text is this
unfoldable pub price_lines : Sheet → Sheet → PriceDay → List ℕ → List ℕ
price_lines old new d date = changed_keys price_text (codes "price" ∷ d.sku ∷ date ∷ []) price_keys (price_in_force old d.sku d.day) (price_in_force new d.sku d.day)

-- one day after another
abbrev pub ListsPrices : Sheet → Sheet → List PriceDay → List ℕ → Type 0
ListsPrices old new [] text = text ≡ []
ListsPrices old new (d ∷ ds) text =
    (date rest : List ℕ) × IsDayText date d.day × ListsPrices old new ds rest × (text ≡ price_lines old new d date ++ rest)

-- ---- commitments and regions

abbrev pub commitment_keys : List Key
commitment_keys = keys.Sku ∷ keys.Buy ∷ keys.Category ∷ keys.Kind ∷ keys.Rate ∷ []

abbrev pub commitment_text : Key → Commitment → List ℕ
commitment_text keys.Sku c = c.sku
commitment_text keys.Buy c = c.buy
commitment_text keys.Category c = commitment_category_text c.category
commitment_text keys.Kind c = c.kind
commitment_text keys.Rate c = spelling 6 (pos c.rate)
commitment_text other c = []

unfoldable pub commitment_lines : Sheet → Sheet → List ℕ → List ℕ
commitment_lines old new id = changed_keys commitment_text (codes "commitment" ∷ id ∷ []) commitment_keys (commitment_with old id) (commitment_with new id)

-- a region's names
abbrev pub region_line : Sheet → Sheet → List ℕ → List ℕ
region_line old new id = changed (codes "region" ∷ id ∷ []) (part (λ name. name) (region_named old id)) (part (λ name. name) (region_named new id))

-- ---- all that is listed

-- just those that stand in a list, each once, in order
pub record AreSorted {K : Type 0} (cmp : K → K → Ordering) (all sorted : List K) : Type 0 where
  pub each : All (Contains all) sorted
  pub every : All (Contains sorted) all
  pub in_order : IsStrictlySortedBy cmp sorted

-- of a row of either sheet
abbrev pub price_days : Sheet → Sheet → List PriceDay
price_days old new = map price_day (old.prices ++ new.prices)

abbrev pub commitment_ids : Sheet → Sheet → List (List ℕ)
commitment_ids old new = map (λ c. c.id) (old.commitments ++ new.commitments)

abbrev pub region_ids : Sheet → Sheet → List (List ℕ)
region_ids old new = map (λ x. x.id) (old.regions ++ new.regions)

-- The prices by SKU and by each day on which one begins in either sheet, then the commitments and the regions by id.
pub record ListsFields (old new : Sheet) (text : List ℕ) : Type 0 where
  pub days : List PriceDay
  pub are_days : AreSorted price_day_cmp (price_days old new) days
  pub prices : List ℕ
  pub are_prices : ListsPrices old new days prices
  pub commitments : List (List ℕ)
  pub are_commitments : AreSorted (slice_cmp nat_cmp) (commitment_ids old new) commitments
  pub regions : List (List ℕ)
  pub are_regions : AreSorted (slice_cmp nat_cmp) (region_ids old new) regions
  pub joined : text ≡ prices ++ flat_map (commitment_lines old new) commitments ++ flat_map (region_line old new) regions

-- No change is listed of a price that the old sheet has in force before the day, nor of one of its commitments.
pub record ListsNoneBefore (day : ℤ) (old new : Sheet) : Type 0 where
  pub prices :
      All (λ d. d.day <ℤ day → is_some (price_in_force old d.sku d.day) ≡ true → (date : List ℕ) → price_lines old new d date ≡ [])
      (price_days old new)
  pub commitments : All (λ c. commitment_lines old new c.id ≡ []) old.commitments
