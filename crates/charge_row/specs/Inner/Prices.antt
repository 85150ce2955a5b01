-- Columns that a price alone gives.
use Rattle.std.specs.Prelude.{◌≡◌, Option, option_map}
use Rattle.std.specs.Option.{option_copied}
use Rattle.metering_model.specs.Sheet.{PriceRow}
use Rattle.charge_row.specs.declared.prices.PriceColumns.{PriceColumns}

-- The price gives these columns; without one they are null.
pub record GivesColumns (price : Option PriceRow) (columns : PriceColumns) : Type 0 where
  pub sku : option_copied columns.sku ≡ option_map (λ p. p.sku) price
  pub price_id : option_copied columns.price_id ≡ option_map (λ p. p.price_id) price
  pub pricing_unit : option_copied columns.pricing_unit ≡ option_map (λ p. p.pricing_unit) price
  pub list : columns.list ≡ option_map (λ p. p.list) price
  pub contracted : columns.contracted ≡ option_map (λ p. p.contracted) price
