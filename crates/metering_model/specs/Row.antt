-- The 38 columns of a charge, by FOCUS's names. Null is None.
use Rattle.std.specs.Prelude.{ℕ, if◌then◌else◌, List, [], ◌∷◌, Option, Some, None, ℤ, codes, option_map, unwrap_or}
use Rattle.std.specs.Option.{is_some, option_map_or, option_and_then}
use Rattle.metering_model.specs.Dates.{day_of, period_start_text, period_end_text}
use Rattle.metering_model.specs.Batch.{Kind, Usage, Purchase, Credit, Tax, Adjustment, Reading, Tag, is_priced}
use Rattle.metering_model.specs.Sheet.{PriceRow, Commitment, Sheet, Issuer, service_category_text, commitment_category_text}
use Rattle.metering_model.specs.PriceInForce.{price_in_force, commitment_with, region_named}
use Rattle.metering_model.specs.Rating.{PricedKind, Rated, rated, flat}
use Rattle.metering_model.specs.declared.ChargeClass.{ChargeClass}
use Rattle.metering_model.specs.declared.ChargeClass.TheVariants.{New, Correction}
use Rattle.metering_model.specs.declared.PricedKind.TheVariants.{Usage as PricedUsage, Purchase as PricedPurchase}

-- Costs are in units of 10^-12, quantities and prices in millionths, and dates are the texts of stamps.
pub record Row : Type 0 where
  pub billed_cost : ℤ
  pub billing_account_id : List ℕ
  pub billing_account_name : List ℕ
  pub billing_currency : List ℕ
  pub billing_period_end : List ℕ
  pub billing_period_start : List ℕ
  pub charge_category : List ℕ
  pub charge_class : Option (List ℕ)
  pub charge_description : List ℕ
  pub charge_frequency : List ℕ
  pub charge_period_end : List ℕ
  pub charge_period_start : List ℕ
  pub commitment_discount_category : Option (List ℕ)
  pub commitment_discount_id : Option (List ℕ)
  pub commitment_discount_status : Option (List ℕ)
  pub commitment_discount_type : Option (List ℕ)
  pub consumed_quantity : Option ℤ
  pub consumed_unit : Option (List ℕ)
  pub contracted_cost : ℤ
  pub contracted_unit_price : Option ℕ
  pub effective_cost : ℤ
  pub invoice_issuer_name : List ℕ
  pub list_cost : ℤ
  pub list_unit_price : Option ℕ
  pub pricing_category : Option (List ℕ)
  pub pricing_quantity : Option ℤ
  pub pricing_unit : Option (List ℕ)
  pub provider_name : List ℕ
  pub publisher_name : List ℕ
  pub region_id : Option (List ℕ)
  pub region_name : Option (List ℕ)
  pub resource_id : Option (List ℕ)
  pub service_category : List ℕ
  pub service_name : List ℕ
  pub sku_id : Option (List ℕ)
  pub sku_price_id : Option (List ℕ)
  pub sub_account_id : Option (List ℕ)
  pub tags : List Tag

-- FOCUS's ChargeClass: Correction where a row corrects charges of an earlier billing period, and else null
abbrev pub class_text : ChargeClass → Option (List ℕ)
class_text New = None
class_text Correction = Some (codes "Correction")

abbrev pub category_text : Kind → List ℕ
category_text Usage = codes "Usage"
category_text Purchase = codes "Purchase"
category_text Credit = codes "Credit"
category_text Tax = codes "Tax"
category_text Adjustment = codes "Adjustment"

-- one value for usage, one for a purchase, and one for the kinds that are charged by their amount
abbrev pub by_kind : {A : Type 0} → Kind → A → A → A → A
by_kind Usage usage purchase amount = usage
by_kind Purchase usage purchase amount = purchase
by_kind Credit usage purchase amount = amount
by_kind Tax usage purchase amount = amount
by_kind Adjustment usage purchase amount = amount

abbrev pub or_null : List ℕ → Option (List ℕ)
or_null [] = None
or_null (c ∷ cs) = Some (c ∷ cs)

abbrev pub priced_kind : Kind → Option PricedKind
priced_kind kind = by_kind kind (Some PricedUsage) (Some PricedPurchase) None

-- The price in force on the day that a reading starts, and the commitment that it names. Only a priced kind has either.
abbrev pub price_of : Sheet → Reading → Option PriceRow
price_of sheet r = if is_priced r.kind then price_in_force sheet r.key (day_of r.start) else None

abbrev pub commitment_of : Sheet → Reading → Option Commitment
commitment_of sheet r = if is_priced r.kind then option_and_then (commitment_with sheet) (or_null r.commitment) else None

-- An empty region is none, and a reading of format B1 has none.
abbrev pub region_of : Reading → Option (List ℕ)
region_of r = option_and_then or_null r.region

-- the name that the sheet gives a region, or else its id
abbrev pub region_name_of : Sheet → List ℕ → List ℕ
region_name_of sheet id = unwrap_or (region_named sheet id) id

-- A reading of a priced kind with no price in force breaks the journal rules. It counts by its amount here.
abbrev pub charge : Option PricedKind → Option PriceRow → Option Commitment → ℤ → ℤ → Rated
charge None price c was now = flat was now
charge (Some kind) None c was now = flat was now
charge (Some kind) (Some price) c was now = rated price c kind was now

-- the row of a reading in a billing period, from an old value to a new one
abbrev pub row : Sheet → Issuer → Reading → ℕ → ChargeClass → ℤ → ℤ → Row
row sheet issuer r period class was now =
    let price = price_of sheet r in
    let commitment = commitment_of sheet r in
    let cost = charge (priced_kind r.kind) price commitment was now in
    record {
      billed_cost = cost.billed;
      billing_account_id = issuer.account_id;
      billing_account_name = issuer.account_name;
      billing_currency = issuer.currency;
      billing_period_end = period_end_text sheet.base period;
      billing_period_start = period_start_text sheet.base period;
      charge_category = category_text r.kind;
      charge_class = class_text class;
      charge_description = option_map_or (λ p. p.description) price r.key;
      charge_frequency = by_kind r.kind (codes "Usage-Based") (codes "One-Time") (codes "One-Time");
      charge_period_end = r.end_text;
      charge_period_start = r.start_text;
      commitment_discount_category = option_map (λ c. commitment_category_text c.category) commitment;
      commitment_discount_id = option_map (λ c. c.id) commitment;
      commitment_discount_status = by_kind r.kind (option_map (λ c. codes "Used") commitment) None None;
      commitment_discount_type = option_map (λ c. c.kind) commitment;
      consumed_quantity = cost.consumed;
      consumed_unit = by_kind r.kind (option_map (λ p. p.consumed_unit) price) None None;
      contracted_cost = cost.contracted;
      contracted_unit_price = option_map (λ p. p.contracted) price;
      effective_cost = cost.effective;
      invoice_issuer_name = issuer.issuer;
      list_cost = cost.list;
      list_unit_price = option_map (λ p. p.list) price;
      pricing_category = by_kind r.kind (if is_some commitment then Some (codes "Committed") else Some (codes "Standard")) (Some (codes "Standard")) None;
      pricing_quantity = cost.priced;
      pricing_unit = option_map (λ p. p.pricing_unit) price;
      provider_name = issuer.provider;
      publisher_name = issuer.publisher;
      region_id = region_of r;
      region_name = option_map (region_name_of sheet) (region_of r);
      resource_id = or_null r.resource;
      service_category = option_map_or (λ p. service_category_text p.category) price (codes "Other");
      service_name = option_map_or (λ p. p.service) price issuer.other_service;
      sku_id = option_map (λ p. p.sku) price;
      sku_price_id = option_map (λ p. p.price_id) price;
      sub_account_id = or_null r.account;
      tags = r.tags;
    }
