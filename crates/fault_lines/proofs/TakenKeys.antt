-- A key that no reader takes changes nothing that is read.
use Rattle.std.proofs.Common.{◌≡◌, refl, ap}
use Rattle.toml.specs.Data.{Members, get_member}
use Rattle.price_sheet.specs.SheetReading.{sheet_in}
use Rattle.sheet_text.specs.IssuerReading.{currency_under, issuer_in}
use Rattle.sheet_text.specs.Keys.{base_under, commitment_category_under, day_under, label_under, per_under, price_under, rows_or_none, rows_under, service_category_under, text_under, value_under}
use Rattle.sheet_text.specs.Names.{key_name}
use Rattle.sheet_text.specs.RowReading.{commitment_in, price_row_in, region_in}
use Rattle.sheet_text.specs.declared.names.Key.{Key}
use Rattle.sheet_text.specs.declared.names.Key.TheVariants as keys
use Rattle.fault_lines.specs.UnknownKeys.{AreAlikeIn, commitment_keys, issuer_keys, price_keys, region_keys, sheet_keys}

-- What stands under a key decides what is read of it.
module _ (k : Key) (ms ns : Members) (same : get_member (key_name k) ms ≡ get_member (key_name k) ns) where
  text_alike : text_under k ms ≡ text_under k ns
  unfolding text_under value_under
  text_alike = rw same refl

  label_alike : label_under k ms ≡ label_under k ns
  unfolding label_under
  label_alike = rw text_alike refl

  day_alike : day_under k ms ≡ day_under k ns
  unfolding day_under
  day_alike = rw text_alike refl

  base_alike : base_under k ms ≡ base_under k ns
  unfolding base_under
  base_alike = rw text_alike refl

  price_alike : price_under k ms ≡ price_under k ns
  unfolding price_under
  price_alike = rw text_alike refl

  per_alike : per_under k ms ≡ per_under k ns
  unfolding per_under value_under
  per_alike = rw same refl

  service_alike : service_category_under k ms ≡ service_category_under k ns
  unfolding service_category_under
  service_alike = rw text_alike refl

  category_alike : commitment_category_under k ms ≡ commitment_category_under k ns
  unfolding commitment_category_under
  category_alike = rw text_alike refl

  currency_alike : currency_under k ms ≡ currency_under k ns
  unfolding currency_under
  currency_alike = rw text_alike refl

  rows_alike : rows_under k ms ≡ rows_under k ns
  unfolding rows_under
  rows_alike = ap (rows_or_none k) same

module _ (ms ns : Members) where
  pub price_rows_alike : AreAlikeIn price_keys ms ns → price_row_in ms ≡ price_row_in ns
  unfolding price_row_in key_name
  price_rows_alike same =
      rw (
        label_alike keys.Sku ms ns (same keys.Sku refl),
        label_alike keys.PriceId ms ns (same keys.PriceId refl),
        day_alike keys.From ms ns (same keys.From refl),
        label_alike keys.Description ms ns (same keys.Description refl),
        label_alike keys.Service ms ns (same keys.Service refl),
        service_alike keys.Category ms ns (same keys.Category refl),
        label_alike keys.ConsumedUnit ms ns (same keys.ConsumedUnit refl),
        label_alike keys.PricingUnit ms ns (same keys.PricingUnit refl),
        per_alike keys.Per ms ns (same keys.Per refl),
        price_alike keys.List ms ns (same keys.List refl),
        price_alike keys.Contracted ms ns (same keys.Contracted refl),
      ) refl

  pub commitments_alike : AreAlikeIn commitment_keys ms ns → commitment_in ms ≡ commitment_in ns
  unfolding commitment_in key_name
  commitments_alike same =
      rw (
        label_alike keys.Id ms ns (same keys.Id refl),
        label_alike keys.Sku ms ns (same keys.Sku refl),
        label_alike keys.Buy ms ns (same keys.Buy refl),
        category_alike keys.Category ms ns (same keys.Category refl),
        label_alike keys.Kind ms ns (same keys.Kind refl),
        price_alike keys.Rate ms ns (same keys.Rate refl),
      ) refl

  pub regions_alike : AreAlikeIn region_keys ms ns → region_in ms ≡ region_in ns
  unfolding region_in key_name
  regions_alike same = rw (label_alike keys.Id ms ns (same keys.Id refl), label_alike keys.Name ms ns (same keys.Name refl)) refl

  pub issuers_alike : AreAlikeIn issuer_keys ms ns → issuer_in ms ≡ issuer_in ns
  unfolding issuer_in key_name
  issuers_alike same =
      rw (
        label_alike keys.Provider ms ns (same keys.Provider refl),
        label_alike keys.Publisher ms ns (same keys.Publisher refl),
        label_alike keys.Issuer ms ns (same keys.Issuer refl),
        label_alike keys.AccountId ms ns (same keys.AccountId refl),
        label_alike keys.AccountName ms ns (same keys.AccountName refl),
        currency_alike keys.Currency ms ns (same keys.Currency refl),
        label_alike keys.OtherService ms ns (same keys.OtherService refl),
      ) refl

  pub sheets_alike : AreAlikeIn sheet_keys ms ns → sheet_in ms ≡ sheet_in ns
  unfolding sheet_in key_name
  sheets_alike same =
      rw (
        base_alike keys.Base ms ns (same keys.Base refl),
        rows_alike keys.Price ms ns (same keys.Price refl),
        rows_alike keys.Commitment ms ns (same keys.Commitment refl),
        rows_alike keys.Region ms ns (same keys.Region refl),
      ) refl
