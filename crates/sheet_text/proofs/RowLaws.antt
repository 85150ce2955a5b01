-- What is read of a table of the sheet, and of an issuer, meets the rules.
use Rattle.std.proofs.Common.{◌≡◌, ℕ, true, List, Result, Ok, subst}
use Rattle.toml.specs.Data.{Members}
use Rattle.metering_model.specs.Sheet.{PriceRow, Commitment, Region, Issuer}
use Rattle.metering_model.specs.SheetRules.{IsPriceRow, IsCommitment, IsRegion, IsIssuer}
use Rattle.metering_model.specs.FirstFailure.{◌>>=◌}
use Rattle.metering_model.proofs.StepLaws.{step_ok, step_iff, ok_same}
use Rattle.sheet_text.specs.Names.{Key}
use Rattle.sheet_text.specs.declared.names.Key.TheVariants as keys
use Rattle.sheet_text.specs.Keys.{service_category_under}
use Rattle.sheet_text.specs.RowReading.{price_row_in, commitment_in, region_in}
use Rattle.sheet_text.specs.IssuerReading.{currency_under, is_currency, issuer_in}
use Rattle.sheet_text.proofs.KeyLaws.{holds_true, label_read, day_is_read, price_is_read, per_is_read}

-- a chain that answered, taken apart with its first step's answer as a variable
through : (P : Type 0) {A B E : Type 0} (r : Result A E) (f : A → Result B E) (y : B) → (r >>= f) ≡ Ok y → ((x : A) → r ≡ Ok x → f x ≡ Ok y → P) → P
through P r f y h next =
    let step = step_ok r f y h in
    next step.0 step.1 step.2

pub price_row_read : (table : Members) (row : PriceRow) → price_row_in table ≡ Ok row → IsPriceRow row
unfolding price_row_in
price_row_read table row h =
    through (IsPriceRow row) _ _ row h (λ sku sku_is behind_sku.
    through (IsPriceRow row) _ _ row behind_sku (λ price_id price_id_is behind_price_id.
    through (IsPriceRow row) _ _ row behind_price_id (λ from from_is behind_from.
    through (IsPriceRow row) _ _ row behind_from (λ description description_is behind_description.
    through (IsPriceRow row) _ _ row behind_description (λ service service_is behind_service.
    through (IsPriceRow row) (service_category_under keys.Category table) _ row behind_service (λ category category_is behind_category.
    through (IsPriceRow row) _ _ row behind_category (λ consumed_unit consumed_unit_is behind_consumed_unit.
    through (IsPriceRow row) _ _ row behind_consumed_unit (λ pricing_unit pricing_unit_is behind_pricing_unit.
    through (IsPriceRow row) _ _ row behind_pricing_unit (λ per per_is behind_per.
    through (IsPriceRow row) _ _ row behind_per (λ list list_is behind_list.
    through (IsPriceRow row) _ _ row behind_list (λ contracted contracted_is behind_contracted.
    subst IsPriceRow (ok_same _ row behind_contracted) (record {
      sku = label_read keys.Sku table sku sku_is;
      price_id = label_read keys.PriceId table price_id price_id_is;
      from = day_is_read keys.From table from from_is;
      description = label_read keys.Description table description description_is;
      service = label_read keys.Service table service service_is;
      consumed_unit = label_read keys.ConsumedUnit table consumed_unit consumed_unit_is;
      pricing_unit = label_read keys.PricingUnit table pricing_unit pricing_unit_is;
      per = per_is_read keys.Per table per per_is;
      list = price_is_read keys.List table list list_is;
      contracted = price_is_read keys.Contracted table contracted contracted_is;
    }))))))))))))

pub commitment_read : (table : Members) (row : Commitment) → commitment_in table ≡ Ok row → IsCommitment row
unfolding commitment_in
commitment_read table row h =
    let id = simp step_iff at h in
    let sku = id.2 in
    let buy = sku.2 in
    let category = buy.2 in
    let kind = category.2 in
    let rate = kind.2 in
    subst IsCommitment (ok_same _ row rate.2) (record {
      id = label_read keys.Id table id.0 id.1;
      sku = label_read keys.Sku table sku.0 sku.1;
      buy = label_read keys.Buy table buy.0 buy.1;
      kind = label_read keys.Kind table kind.0 kind.1;
      rate = price_is_read keys.Rate table rate.0 rate.1;
    })

pub region_read : (table : Members) (row : Region) → region_in table ≡ Ok row → IsRegion row
unfolding region_in
region_read table row h =
    let id = simp step_iff at h in
    let name = id.2 in
    subst IsRegion (ok_same _ row name.2) (record {
      id = label_read keys.Id table id.0 id.1;
      name = label_read keys.Name table name.0 name.1;
    })

currency_read : (key : Key) (table : Members) (x : List ℕ) → currency_under key table ≡ Ok x → is_currency x ≡ true
unfolding currency_under
currency_read key table x h =
    let text = simp step_iff at h in
    subst (λ t. is_currency t ≡ true) (ok_same text.0 x text.2.2) (holds_true (is_currency text.0) _ _ text.2.1)

pub issuer_read : (table : Members) (issuer : Issuer) → issuer_in table ≡ Ok issuer → IsIssuer issuer
unfolding issuer_in
issuer_read table issuer h =
    let provider = simp step_iff at h in
    let publisher = provider.2 in
    let name = publisher.2 in
    let account_id = name.2 in
    let account_name = account_id.2 in
    let currency = account_name.2 in
    let other_service = currency.2 in
    subst IsIssuer (ok_same _ issuer other_service.2) (record {
      provider = label_read keys.Provider table provider.0 provider.1;
      publisher = label_read keys.Publisher table publisher.0 publisher.1;
      issuer = label_read keys.Issuer table name.0 name.1;
      account_id = label_read keys.AccountId table account_id.0 account_id.1;
      account_name = label_read keys.AccountName table account_name.0 account_name.1;
      currency = currency_read keys.Currency table currency.0 currency.1;
      other_service = label_read keys.OtherService table other_service.0 other_service.1;
    })
