-- The words that stand for the keys of a sheet and of an issuer in TOML.
use Rattle.std.specs.Prelude.{ℕ, List, codes}
pub use Rattle.sheet_text.specs.declared.names.Key.{Key}
use Rattle.sheet_text.specs.declared.names.Key.TheVariants as keys

unfoldable pub key_name : Key → List ℕ
key_name keys.Base = codes "base"
key_name keys.Price = codes "price"
key_name keys.Commitment = codes "commitment"
key_name keys.Region = codes "region"
key_name keys.Sku = codes "sku"
key_name keys.PriceId = codes "price_id"
key_name keys.From = codes "from"
key_name keys.Description = codes "description"
key_name keys.Service = codes "service"
key_name keys.Category = codes "category"
key_name keys.ConsumedUnit = codes "consumed_unit"
key_name keys.PricingUnit = codes "pricing_unit"
key_name keys.Per = codes "per"
key_name keys.List = codes "list"
key_name keys.Contracted = codes "contracted"
key_name keys.Id = codes "id"
key_name keys.Buy = codes "buy"
key_name keys.Kind = codes "type"
key_name keys.Rate = codes "rate"
key_name keys.Name = codes "name"
key_name keys.Provider = codes "provider"
key_name keys.Publisher = codes "publisher"
key_name keys.Issuer = codes "issuer"
key_name keys.AccountId = codes "account_id"
key_name keys.AccountName = codes "account_name"
key_name keys.Currency = codes "currency"
key_name keys.OtherService = codes "other_service"
