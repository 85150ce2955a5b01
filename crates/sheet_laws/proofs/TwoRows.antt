-- The row of a reading under a sheet, and under one that goes on from it.
use Rattle.std.proofs.Common.{◌≡◌, ℕ, Bool, true, false, not, ◌&&◌, ◌||◌, List, [], ◌∷◌, refl, sym, ap, ap₂, subst, ◌∙◌, Option, Some, None, ℤ, option_map, unwrap_or}
use Rattle.std.specs.Prelude.{codes, if◌then◌else◌}
use Rattle.std.specs.Option.{is_some, option_map_or, option_and_then}
use Rattle.std.proofs.lemmas.Option.{same_Some, none-some}
use Rattle.metering_model.specs.Dates.{day_of, period_start_text, period_end_text}
use Rattle.metering_model.specs.Batch.{Reading, is_priced, is_empty}
use Rattle.metering_model.specs.Sheet.{PriceRow, Commitment, Sheet, Issuer, service_category_text, commitment_category_text}
use Rattle.metering_model.specs.PriceInForce.{price_in_force, commitment_with, region_named}
use Rattle.metering_model.specs.JournalRules.{is_fit_commitment, is_fit_reading}
use Rattle.metering_model.specs.declared.ChargeClass.{ChargeClass}
use Rattle.metering_model.specs.declared.PricedKind.{PricedKind}
use Rattle.metering_model.specs.declared.PricedKind.TheVariants.{Usage, Purchase}
use Rattle.metering_model.specs.Rating.{Rated}
use Rattle.metering_model.specs.Row.{Row, row, charge, priced_kind, price_of, commitment_of, region_of, region_name_of, class_text, category_text, by_kind, or_null}
use Rattle.metering_model.proofs.PriceLaws.{in_force_begun}
use Rattle.sheet_laws.specs.Longer.{GoesOnFrom, NamesItAlike, without_from}
use Rattle.sheet_laws.specs.Pairs.{without_prices, without_region_name, IsPricedBefore, IsPricedAlike}

-- ---- a row by what the sheet gives it

abbrev pub row_with : ℕ → Issuer → Reading → ℕ → ChargeClass → Rated → Option PriceRow → Option Commitment → Option (List ℕ) → Row
row_with base issuer r period class cost price commitment name = record {
  billed_cost = cost.billed;
  billing_account_id = issuer.account_id;
  billing_account_name = issuer.account_name;
  billing_currency = issuer.currency;
  billing_period_end = period_end_text base period;
  billing_period_start = period_start_text base period;
  charge_category = category_text r.kind;
  charge_class = class_text class;
  charge_description = option_map_or (λ p. p.description) price r.key;
  charge_frequency = by_kind r.kind (codes "Usage-Based") (codes "One-Time") (codes "One-Time");
  charge_period_end = r.end_text;
  charge_period_start = r.start_text;
  commitment_discount_category = option_map (λ c. commitment_category_text c.category) commitment;
  commitment_discount_id = option_map (λ c. c.id) commitment;
  commitment_discount_status = by_kind r.kind (option_map (λ c. codes "Used") commitment) None None;
  commitment_discount_type = option_map (λ c. c.kind) commitment;
  consumed_quantity = cost.consumed;
  consumed_unit = by_kind r.kind (option_map (λ p. p.consumed_unit) price) None None;
  contracted_cost = cost.contracted;
  contracted_unit_price = option_map (λ p. p.contracted) price;
  effective_cost = cost.effective;
  invoice_issuer_name = issuer.issuer;
  list_cost = cost.list;
  list_unit_price = option_map (λ p. p.list) price;
  pricing_category = by_kind r.kind (if is_some commitment then Some (codes "Committed") else Some (codes "Standard")) (Some (codes "Standard")) None;
  pricing_quantity = cost.priced;
  pricing_unit = option_map (λ p. p.pricing_unit) price;
  provider_name = issuer.provider;
  publisher_name = issuer.publisher;
  region_id = region_of r;
  region_name = name;
  resource_id = or_null r.resource;
  service_category = option_map_or (λ p. service_category_text p.category) price (codes "Other");
  service_name = option_map_or (λ p. p.service) price issuer.other_service;
  sku_id = option_map (λ p. p.sku) price;
  sku_price_id = option_map (λ p. p.price_id) price;
  sub_account_id = or_null r.account;
  tags = r.tags;
}

module _ (issuer : Issuer) (r : Reading) (period : ℕ) (class : ChargeClass) (was now : ℤ) where
  abbrev row_by : ℕ → Option PriceRow → Option Commitment → Option (List ℕ) → Row
  row_by base price c name = row_with base issuer r period class (charge (priced_kind r.kind) price c was now) price c name

  charge_without_from : (k : Option PricedKind) (price : Option PriceRow) (c : Option Commitment) → charge k (option_map without_from price) c was now ≡ charge k price c was now
  charge_without_from None price c = refl
  charge_without_from (Some k) None c = refl
  charge_without_from (Some Usage) (Some p) None = refl
  charge_without_from (Some Usage) (Some p) (Some c) = refl
  charge_without_from (Some Purchase) (Some p) c = refl

  with_without_from : (base : ℕ) (cost : Rated) (price : Option PriceRow) (c : Option Commitment) (name : Option (List ℕ)) → row_with base issuer r period class cost (option_map without_from price) c name ≡ row_with base issuer r period class cost price c name
  with_without_from base cost None c name = refl
  with_without_from base cost (Some p) c name = refl

  by_without_from : (base : ℕ) (price : Option PriceRow) (c : Option Commitment) (name : Option (List ℕ)) → row_by base (option_map without_from price) c name ≡ row_by base price c name
  by_without_from base price c name =
      ap (λ cost. row_with base issuer r period class cost (option_map without_from price) c name) (charge_without_from (priced_kind r.kind) price c)
      ∙ with_without_from base (charge (priced_kind r.kind) price c was now) price c name

  -- prices that are alike but for their days give the same row
  pub same_by_price : (base : ℕ) (p q : Option PriceRow) (c : Option Commitment) (name : Option (List ℕ)) → option_map without_from q ≡ option_map without_from p → row_by base q c name ≡ row_by base p c name
  same_by_price base p q c name e = sym (by_without_from base q c name) ∙ ap (λ o. row_by base o c name) e ∙ by_without_from base p c name

  same_consumed : (k : Option PricedKind) (p q : PriceRow) (c : Option Commitment) → (charge k (Some q) c was now).consumed ≡ (charge k (Some p) c was now).consumed
  same_consumed None p q c = refl
  same_consumed (Some Usage) p q None = refl
  same_consumed (Some Usage) p q (Some c) = refl
  same_consumed (Some Purchase) p q c = refl

  -- prices of one SKU give the same columns but for those of a price
  abbrev AreOfOneSku : Option PriceRow → Option PriceRow → Type 0
  AreOfOneSku p q = option_map (λ x. x.sku) q ≡ option_map (λ x. x.sku) p

  pub same_columns : (base : ℕ) (p q : Option PriceRow) (c : Option Commitment) (name other : Option (List ℕ)) → AreOfOneSku p q → without_prices (row_by base q c other) ≡ without_prices (row_by base p c name)
  same_columns base None None c name other e = refl
  same_columns base None (Some q) c name other e = absurd (none-some _ (sym e))
  same_columns base (Some p) None c name other e = absurd (none-some _ e)
  same_columns base (Some p) (Some q) c name other e =
      ap₂ (λ consumed sku. without_prices (row_with base issuer r period class (record (charge (priced_kind r.kind) (Some p) c was now) { consumed = consumed }) (Some (record p { sku = sku })) c name))
      (same_consumed (priced_kind r.kind) p q c) (same_Some _ _ e)

-- ---- what the two sheets give a reading

pub fit_parts : (b x y : Bool) → (not b || (x && y)) ≡ true → b ≡ true → (x ≡ true) × (y ≡ true)
fit_parts true true true e f = (refl, refl)
fit_parts true true false e f = absurd (cc)
fit_parts true false y e f = absurd (cc)
fit_parts false x y e f = absurd (cc)

there : {A : Type 0} (o : Option A) → is_some o ≡ true → (x : A) × (o ≡ Some x)
there None e = absurd (cc)
there (Some x) e = (x, refl)

-- a fit reading of a priced kind has a price of its SKU in force
pub in_force : (sheet : Sheet) (r : Reading) → is_fit_reading sheet r ≡ true → is_priced r.kind ≡ true → (p : PriceRow) × (price_in_force sheet r.key (day_of r.start) ≡ Some p) × (p.sku ≡ r.key)
in_force sheet r fit priced =
    let has = (fit_parts (is_priced r.kind) (is_some (price_of sheet r)) (is_fit_commitment r (commitment_of sheet r)) fit priced).0 in
    let found = there (price_in_force sheet r.key (day_of r.start)) (subst (λ b. is_some (if b then price_in_force sheet r.key (day_of r.start) else None) ≡ true) priced has) in
    (found.0, found.1, (in_force_begun r.key (day_of r.start) sheet found.0 found.1).1)

module _ (day : ℤ) (old new : Sheet) (goes : GoesOnFrom day old new) (r : Reading) (fit : is_fit_reading old r ≡ true) where
  abbrev fits : List ℕ → Option Commitment → Type 0
  fits t o = is_fit_commitment (record r { commitment = t }) o ≡ true

  pub same_commitment : commitment_of new r ≡ commitment_of old r
  same_commitment = by_priced (is_priced r.kind) refl
    where
      by_found : (t : List ℕ) (o : Option Commitment) → commitment_with old t ≡ o → is_empty t ≡ false → fits t o → commitment_with new t ≡ o
      by_found t (Some c) found some is = goes.commitments t c found
      by_found t None found some is = absurd (cc)

      by_text : (t : List ℕ) → fits t (option_and_then (commitment_with old) (or_null t)) → option_and_then (commitment_with new) (or_null t) ≡ option_and_then (commitment_with old) (or_null t)
      by_text [] is = refl
      by_text (x ∷ xs) is = by_found (x ∷ xs) (commitment_with old (x ∷ xs)) refl refl is

      by_priced : (b : Bool) → is_priced r.kind ≡ b →
          (if b then option_and_then (commitment_with new) (or_null r.commitment) else None) ≡ (if b then option_and_then (commitment_with old) (or_null r.commitment) else None)
      by_priced false e = refl
      by_priced true e =
          let is = (fit_parts (is_priced r.kind) (is_some (price_of old r)) (is_fit_commitment r (commitment_of old r)) fit e).1 in
          by_text r.commitment (subst (λ b. is_fit_commitment r (if b then option_and_then (commitment_with old) (or_null r.commitment) else None) ≡ true) e is)

  pub same_price : IsPricedBefore day r → IsPricedAlike old new r
  same_price before = by_priced (is_priced r.kind) refl
    where
      by_priced : (b : Bool) → is_priced r.kind ≡ b →
          option_map without_from (if b then price_in_force new r.key (day_of r.start) else None) ≡ option_map without_from (if b then price_in_force old r.key (day_of r.start) else None)
      by_priced false e = refl
      by_priced true e =
          let p = in_force old r fit e in
          goes.prices r.key (day_of r.start) p.0 (before e) p.1 ∙ ap (option_map without_from) (sym p.1)

  pub same_sku : is_fit_reading new r ≡ true → option_map (λ x. x.sku) (price_of new r) ≡ option_map (λ x. x.sku) (price_of old r)
  same_sku fit_new = by_priced (is_priced r.kind) refl
    where
      by_priced : (b : Bool) → is_priced r.kind ≡ b →
          option_map (λ (x : PriceRow). x.sku) (if b then price_in_force new r.key (day_of r.start) else None) ≡ option_map (λ (x : PriceRow). x.sku) (if b then price_in_force old r.key (day_of r.start) else None)
      by_priced false e = refl
      by_priced true e =
          let p = in_force old r fit e in
          let q = in_force new r fit_new e in
          ap (option_map (λ (x : PriceRow). x.sku)) q.1 ∙ ap (λ t. Some t) (q.2 ∙ sym p.2) ∙ sym (ap (option_map (λ (x : PriceRow). x.sku)) p.1)

  pub same_name : NamesItAlike old new r → option_map (region_name_of new) (region_of r) ≡ option_map (region_name_of old) (region_of r)
  same_name alike = by_region (region_of r) alike
    where
      by_region : (o : Option (List ℕ)) → ((id : List ℕ) → o ≡ Some id → region_named new id ≡ region_named old id) → option_map (region_name_of new) o ≡ option_map (region_name_of old) o
      by_region None same = refl
      by_region (Some id) same = ap (λ n. Some (unwrap_or n id)) (same id refl)

  -- ---- so are the rows

  module _ (issuer : Issuer) (period : ℕ) (class : ChargeClass) (was now : ℤ) where
    abbrev row_of_sheet : Sheet → Row
    row_of_sheet sheet = row sheet issuer r period class was now

    abbrev by : ℕ → Option PriceRow → Option Commitment → Option (List ℕ) → Row
    by = row_by issuer r period class was now

    -- the new row, with the old base and the old commitment
    with_old : row_of_sheet new ≡ by old.base (price_of new r) (commitment_of old r) (option_map (region_name_of new) (region_of r))
    with_old =
        ap (λ base. by base (price_of new r) (commitment_of new r) (option_map (region_name_of new) (region_of r))) goes.base
        ∙ ap (λ c. by old.base (price_of new r) c (option_map (region_name_of new) (region_of r))) same_commitment

    pub alike_but_prices : is_fit_reading new r ≡ true → without_prices (row_of_sheet new) ≡ without_prices (row_of_sheet old)
    alike_but_prices fit_new =
        ap without_prices with_old
        ∙ same_columns issuer r period class was now old.base (price_of old r) (price_of new r) (commitment_of old r) (option_map (region_name_of old) (region_of r)) (option_map (region_name_of new) (region_of r)) (same_sku fit_new)

    with_old_price : IsPricedAlike old new r → row_of_sheet new ≡ by old.base (price_of old r) (commitment_of old r) (option_map (region_name_of new) (region_of r))
    with_old_price same =
        with_old ∙ same_by_price issuer r period class was now old.base (price_of old r) (price_of new r) (commitment_of old r) (option_map (region_name_of new) (region_of r)) same

    pub alike_but_region : IsPricedAlike old new r → without_region_name (row_of_sheet new) ≡ without_region_name (row_of_sheet old)
    alike_but_region same = ap without_region_name (with_old_price same)

    pub alike : IsPricedBefore day r → NamesItAlike old new r → row_of_sheet new ≡ row_of_sheet old
    alike before names = with_old_price (same_price before) ∙ ap (by old.base (price_of old r) (commitment_of old r)) (same_name names)
