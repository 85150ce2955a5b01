-- The model's row that a row of the code stands for.
use Rattle.std.specs.Prelude.{map}
use Rattle.std.specs.Option.{option_copied}
use Rattle.metering_model.specs.Row.{Row}
use Rattle.rating.specs.TagTexts.{tag_of}
use Rattle.rating.specs.Lent.{lent_tags}
use Rattle.charge_row.specs.declared.columns.FocusRow.{FocusRow}

abbrev pub model_row : FocusRow → Row
model_row r = record {
  billed_cost = r.billed_cost;
  billing_account_id = r.billing_account_id.now;
  billing_account_name = r.billing_account_name.now;
  billing_currency = r.billing_currency.now;
  billing_period_end = r.billing_period_end;
  billing_period_start = r.billing_period_start;
  charge_category = r.charge_category.now;
  charge_class = option_copied r.charge_class;
  charge_description = r.charge_description.now;
  charge_frequency = r.charge_frequency.now;
  charge_period_end = r.charge_period_end.now;
  charge_period_start = r.charge_period_start.now;
  commitment_discount_category = option_copied r.commitment_discount_category;
  commitment_discount_id = option_copied r.commitment_discount_id;
  commitment_discount_status = option_copied r.commitment_discount_status;
  commitment_discount_type = option_copied r.commitment_discount_type;
  consumed_quantity = r.consumed_quantity;
  consumed_unit = option_copied r.consumed_unit;
  contracted_cost = r.contracted_cost;
  contracted_unit_price = r.contracted_unit_price;
  effective_cost = r.effective_cost;
  invoice_issuer_name = r.invoice_issuer_name.now;
  list_cost = r.list_cost;
  list_unit_price = r.list_unit_price;
  pricing_category = option_copied r.pricing_category;
  pricing_quantity = r.pricing_quantity;
  pricing_unit = option_copied r.pricing_unit;
  provider_name = r.provider_name.now;
  publisher_name = r.publisher_name.now;
  region_id = option_copied r.region_id;
  region_name = option_copied r.region_name;
  resource_id = option_copied r.resource_id;
  service_category = r.service_category.now;
  service_name = r.service_name.now;
  sku_id = option_copied r.sku_id;
  sku_price_id = option_copied r.sku_price_id;
  sub_account_id = option_copied r.sub_account_id;
  tags = map tag_of (lent_tags r.tags);
}
