-- Reading a row of a price sheet: key by key, or the first fault.
use Rattle.std.specs.Prelude.{Result, Ok}
use Rattle.toml.specs.Data.{Members}
use Rattle.metering_model.specs.FirstFailure.{◌>>=◌}
use Rattle.metering_model.specs.Sheet.{PriceRow, Commitment, Region}
use Rattle.sheet_text.specs.declared.names.Key.TheVariants as keys
use Rattle.sheet_text.specs.Keys.{KeyFault, label_under, day_under, price_under, per_under, service_category_under, commitment_category_under}

-- a row of prices, key by key
unfoldable pub price_row_in : Members → Result PriceRow KeyFault
price_row_in table = do
  sku ← label_under keys.Sku table
  price_id ← label_under keys.PriceId table
  from ← day_under keys.From table
  description ← label_under keys.Description table
  service ← label_under keys.Service table
  category ← service_category_under keys.Category table
  consumed_unit ← label_under keys.ConsumedUnit table
  pricing_unit ← label_under keys.PricingUnit table
  per ← per_under keys.Per table
  list ← price_under keys.List table
  contracted ← price_under keys.Contracted table
  Ok (record {
    sku = sku;
    price_id = price_id;
    from = from;
    description = description;
    service = service;
    category = category;
    consumed_unit = consumed_unit;
    pricing_unit = pricing_unit;
    per = per;
    list = list;
    contracted = contracted;
  })

unfoldable pub commitment_in : Members → Result Commitment KeyFault
commitment_in table = do
  id ← label_under keys.Id table
  sku ← label_under keys.Sku table
  buy ← label_under keys.Buy table
  category ← commitment_category_under keys.Category table
  kind ← label_under keys.Kind table
  rate ← price_under keys.Rate table
  Ok (record { id = id; sku = sku; buy = buy; category = category; kind = kind; rate = rate })

unfoldable pub region_in : Members → Result Region KeyFault
region_in table = do
  id ← label_under keys.Id table
  name ← label_under keys.Name table
  Ok (record { id = id; name = name })
