-- The rows of one reading under two sheets.
use Rattle.std.specs.Prelude.{◌≡◌, true, [], Some, None, ℤ, pos, ◌<ℤ◌, option_map}
use Rattle.metering_model.specs.Dates.{day_of}
use Rattle.metering_model.specs.Batch.{Reading, is_priced}
use Rattle.metering_model.specs.Sheet.{Sheet}
use Rattle.metering_model.specs.Holding.{Holding, reading_at}
use Rattle.metering_model.specs.Row.{Row, price_of}
use Rattle.metering_model.specs.Rows.{PlacedRow}
use Rattle.sheet_laws.specs.Longer.{NamesItAlike, without_from}

-- a row without its region's name
abbrev pub without_region_name : Row → Row
without_region_name x = record x { region_name = None }

-- a row without what another price may change, and without its region's name
abbrev pub without_prices : Row → Row
without_prices x = record x {
  billed_cost = pos 0;
  charge_description = [];
  consumed_unit = None;
  contracted_cost = pos 0;
  contracted_unit_price = None;
  effective_cost = pos 0;
  list_cost = pos 0;
  list_unit_price = None;
  pricing_quantity = None;
  pricing_unit = None;
  region_name = None;
  service_category = [];
  service_name = [];
  sku_price_id = None;
}

-- no price is asked for the reading, or it starts before the day
abbrev pub IsPricedBefore : ℤ → Reading → Type 0
IsPricedBefore day r = is_priced r.kind ≡ true → day_of r.start <ℤ day

-- both sheets give the reading the same price, but for the day that it is in force from, or none
abbrev pub IsPricedAlike : Sheet → Sheet → Reading → Type 0
IsPricedAlike old new r = option_map without_from (price_of new r) ≡ option_map without_from (price_of old r)

-- Both rows stem from one reading, and have the same columns but for what its price gives and its region's name. What its price
-- gives is the same where both sheets price the reading alike, as they do where it starts before the day or asks for no price, and
-- the region's name where both sheets name it alike.
pub record StayAlike (day : ℤ) (old new : Sheet) (h : Holding) (x y : PlacedRow) : Type 0 where
  pub place : y.place ≡ x.place
  pub reading : Reading
  pub there : reading_at h x.place ≡ Some reading
  pub columns : without_prices y.row ≡ without_prices x.row
  pub same_price : IsPricedAlike old new reading → without_region_name y.row ≡ without_region_name x.row
  pub prices : IsPricedBefore day reading → without_region_name y.row ≡ without_region_name x.row
  pub region : NamesItAlike old new reading → y.row.region_name ≡ x.row.region_name
  pub whole : IsPricedBefore day reading → NamesItAlike old new reading → y.row ≡ x.row
