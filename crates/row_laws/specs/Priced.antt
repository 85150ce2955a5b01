-- What the columns of one row say of each other: costs that are unit price times quantity, and columns that are null together.
use Rattle.std.specs.Prelude.{◌≡◌, ℕ, Bool, Option, Some, ℤ, pos, ◌*ℤ◌, codes}
use Rattle.std.specs.Option.{is_some}
use Rattle.metering_model.specs.BatchReading.{is_same}
use Rattle.metering_model.specs.Row.{Row}

-- Where a unit price and a quantity are both there, the cost is their product: millionths times millionths are units of 10^-12.
abbrev pub IsPriceTimesQuantity : Option ℕ → Option ℤ → ℤ → Type 0
IsPriceTimesQuantity price quantity cost = (p : ℕ) (q : ℤ) → price ≡ Some p → quantity ≡ Some q → cost ≡ pos p *ℤ q

abbrev pub is_usage : Row → Bool
is_usage x = is_same x.charge_category (codes "Usage")

abbrev pub is_purchase : Row → Bool
is_purchase x = is_same x.charge_category (codes "Purchase")

-- Of the columns that a price gives, all are there, or none is.
pub record PriceColumnsAre (there : Bool) (x : Row) : Type 0 where
  pub pricing_quantity : is_some x.pricing_quantity ≡ there
  pub pricing_unit : is_some x.pricing_unit ≡ there
  pub list_unit_price : is_some x.list_unit_price ≡ there
  pub contracted_unit_price : is_some x.contracted_unit_price ≡ there
  pub sku_id : is_some x.sku_id ≡ there
  pub sku_price_id : is_some x.sku_price_id ≡ there

-- The same of those that a commitment gives. Its status is for usage alone.
pub record CommitmentColumnsAre (there : Bool) (x : Row) : Type 0 where
  pub id : is_some x.commitment_discount_id ≡ there
  pub category : is_some x.commitment_discount_category ≡ there
  pub type : is_some x.commitment_discount_type ≡ there
