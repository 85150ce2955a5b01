-- What holds of each row between two cuts, from what holds of the row of any reading.
use Rattle.std.proofs.Common.{◌≡◌, ℕ, Bool, true, false, ◌&&◌, ◌||◌, not, List, [], ◌∷◌, Option, Some, None, ℤ, pos, ◌*ℤ◌, option_map, refl, sym, ap, subst, ◌∙◌, inl, inr}
use Rattle.std.specs.Prelude.{All, if◌then◌else◌, find, codes}
use Rattle.std.specs.Option.{is_some, option_and_then}
use Rattle.std.proofs.lemmas.Bool.{cases_Bool, cond-true, cond-false, both_ways}
use Rattle.std.proofs.lemmas.Option.{same_Some, none-some}
use Rattle.std.proofs.lemmas.List.Elements.{All-nil, All-cons}
use Rattle.metering_model.specs.declared.Kind.{Kind}
use Rattle.metering_model.specs.declared.Kind.TheVariants.{Usage, Purchase, Credit, Tax, Adjustment}
use Rattle.metering_model.specs.Batch.{Reading, is_priced}
use Rattle.metering_model.specs.BatchReading.{is_same}
use Rattle.metering_model.specs.Cut.{Cut, last_of}
use Rattle.metering_model.specs.Sheet.{Sheet, Issuer, PriceRow, Commitment, commitment_category_text}
use Rattle.metering_model.specs.Dates.{day_of}
use Rattle.metering_model.specs.PriceInForce.{price_in_force, commitment_with}
use Rattle.metering_model.specs.Holding.{Holding, Placed, records_in_order, up_to}
use Rattle.metering_model.specs.declared.BrokenRule.TheVariants.{Unpriced}
use Rattle.metering_model.specs.JournalRules.{MeetsJournalRules, is_fit_commitment, is_fit_reading, broken_by, first_broken}
use Rattle.metering_model.specs.ValueAtSequence.{value_at}
use Rattle.metering_model.specs.declared.PricedKind.{PricedKind}
use Rattle.metering_model.specs.declared.PricedKind.TheVariants.{Usage as PricedUsage, Purchase as PricedPurchase}
use Rattle.metering_model.specs.declared.ChargeClass.{ChargeClass}
use Rattle.metering_model.specs.declared.ChargeClass.TheVariants.{New, Correction}
use Rattle.metering_model.specs.Row.{Row, row, charge, priced_kind, price_of, commitment_of, or_null, category_text, by_kind, region_of, region_name_of}
use Rattle.metering_model.specs.Rows.{rows}
use Rattle.metering_model.proofs.DayLaws.{when_some}
use Rattle.metering_model.proofs.FieldLaws.{same_read}
use Rattle.metering_model.proofs.Journals.{or_next_parts}
use Rattle.metering_model.proofs.RulesUpToCut.{MeetsJournalRules-up_to}
use Rattle.metering_model.proofs.EachRow.{rows_have}
use Rattle.row_laws.specs.Priced.{IsPriceTimesQuantity, is_usage, is_purchase, PriceColumnsAre, CommitmentColumnsAre}

-- ---- from rows of readings to rows between cuts

module _ (sheet : Sheet) (issuer : Issuer) (h : Holding) (period : ℕ) (from to : Cut) where
  any_row : (P : Row → Type 0) → ((r : Reading) (class : ChargeClass) (was now : ℤ) → P (row sheet issuer r period class was now)) → All P (rows sheet issuer h period from to)
  any_row P each =
      rows_have sheet issuer h period from to P (λ x. Unit {0})
      (λ at r _. each r New (pos 0) (value_at h at (last_of to at.agent)))
      (λ at r _. each r Correction (value_at h at (last_of from at.agent)) (value_at h at (last_of to at.agent)))
      (λ k d within. tt)

  abbrev IsUnbroken : Placed → Type 0
  IsUnbroken x = broken_by sheet (up_to to h) x.place x.what ≡ None

  all_unbroken : (xs : List Placed) → first_broken sheet (up_to to h) xs ≡ None → All IsUnbroken xs
  all_unbroken [] e = All-nil IsUnbroken
  all_unbroken (x ∷ xs) e =
      let parts = or_next_parts (broken_by sheet (up_to to h) x.place x.what) (first_broken sheet (up_to to h) xs) e in
      All-cons IsUnbroken x xs parts.0 (all_unbroken xs parts.1)

  fit : (b : Bool) → (if b then None else Some Unpriced) ≡ None → b ≡ true
  fit true e = refl
  fit false e = absurd (cc)

  -- where the journals meet their rules, of a fit reading
  any_fit_row : (P : Row → Type 0) → MeetsJournalRules sheet h
      → ((r : Reading) (class : ChargeClass) (was now : ℤ) → is_fit_reading sheet r ≡ true → P (row sheet issuer r period class was now))
      → All P (rows sheet issuer h period from to)
  any_fit_row P rules each =
      rows_have sheet issuer h period from to P IsUnbroken
      (λ at r e. each r New (pos 0) (value_at h at (last_of to at.agent)) (fit (is_fit_reading sheet r) e))
      (λ at r e. each r Correction (value_at h at (last_of from at.agent)) (value_at h at (last_of to at.agent)) (fit (is_fit_reading sheet r) e))
      (all_unbroken (records_in_order (up_to to h)) (MeetsJournalRules-up_to sheet to h rules).none_broken)

-- ---- costs

list_product : (kind : Option PricedKind) (price : Option PriceRow) (c : Option Commitment) (was now : ℤ)
    → IsPriceTimesQuantity (option_map (λ p. p.list) price) (charge kind price c was now).priced (charge kind price c was now).list
list_product None price c was now p q e f = absurd (none-some q f)
list_product (Some kind) None c was now p q e f = absurd (none-some p e)
list_product (Some PricedUsage) (Some row) None was now p q e f = rw (sym (same_Some _ _ e)) (rw (sym (same_Some _ _ f)) refl)
list_product (Some PricedUsage) (Some row) (Some c) was now p q e f = rw (sym (same_Some _ _ e)) (rw (sym (same_Some _ _ f)) refl)
list_product (Some PricedPurchase) (Some row) c was now p q e f = rw (sym (same_Some _ _ e)) (rw (sym (same_Some _ _ f)) refl)

contracted_product : (kind : Option PricedKind) (price : Option PriceRow) (c : Option Commitment) (was now : ℤ)
    → IsPriceTimesQuantity (option_map (λ p. p.contracted) price) (charge kind price c was now).priced (charge kind price c was now).contracted
contracted_product None price c was now p q e f = absurd (none-some q f)
contracted_product (Some kind) None c was now p q e f = absurd (none-some p e)
contracted_product (Some PricedUsage) (Some row) None was now p q e f = rw (sym (same_Some _ _ e)) (rw (sym (same_Some _ _ f)) refl)
contracted_product (Some PricedUsage) (Some row) (Some c) was now p q e f = rw (sym (same_Some _ _ e)) (rw (sym (same_Some _ _ f)) refl)
contracted_product (Some PricedPurchase) (Some row) c was now p q e f = rw (sym (same_Some _ _ e)) (rw (sym (same_Some _ _ f)) refl)

pub list_costs : (sheet : Sheet) (issuer : Issuer) (h : Holding) (period : ℕ) (from to : Cut)
    → All (λ x. IsPriceTimesQuantity x.list_unit_price x.pricing_quantity x.list_cost) (rows sheet issuer h period from to)
list_costs sheet issuer h period from to =
    any_row sheet issuer h period from to (λ x. IsPriceTimesQuantity x.list_unit_price x.pricing_quantity x.list_cost)
    (λ r class was now. list_product (priced_kind r.kind) (price_of sheet r) (commitment_of sheet r) was now)

pub contracted_costs : (sheet : Sheet) (issuer : Issuer) (h : Holding) (period : ℕ) (from to : Cut)
    → All (λ x. IsPriceTimesQuantity x.contracted_unit_price x.pricing_quantity x.contracted_cost) (rows sheet issuer h period from to)
contracted_costs sheet issuer h period from to =
    any_row sheet issuer h period from to (λ x. IsPriceTimesQuantity x.contracted_unit_price x.pricing_quantity x.contracted_cost)
    (λ r class was now. contracted_product (priced_kind r.kind) (price_of sheet r) (commitment_of sheet r) was now)

-- ---- columns that are null together

map_there : {A B : Type 0} (f : A → B) (o : Option A) → is_some (option_map f o) ≡ is_some o
map_there f None = refl
map_there f (Some a) = refl

-- a reading of no priced kind has no price, whatever the sheet has
quantity_there : (k : Kind) (o : Option PriceRow) (c : Option Commitment) (was now : ℤ)
    → is_some (charge (priced_kind k) (if is_priced k then o else None) c was now).priced ≡ is_some (if is_priced k then o else None)
quantity_there Usage None c was now = refl
quantity_there Usage (Some p) None was now = refl
quantity_there Usage (Some p) (Some c) was now = refl
quantity_there Purchase None c was now = refl
quantity_there Purchase (Some p) c was now = refl
quantity_there Credit o c was now = refl
quantity_there Tax o c was now = refl
quantity_there Adjustment o c was now = refl

consumed_there : (k : Kind) (o : Option PriceRow) (c : Option Commitment) (was now : ℤ)
    → is_some (charge (priced_kind k) (if is_priced k then o else None) c was now).consumed
    ≡ is_some (by_kind k (option_map (λ p. p.consumed_unit) (if is_priced k then o else None)) None None)
consumed_there Usage None c was now = refl
consumed_there Usage (Some p) None was now = refl
consumed_there Usage (Some p) (Some c) was now = refl
consumed_there Purchase None c was now = refl
consumed_there Purchase (Some p) c was now = refl
consumed_there Credit o c was now = refl
consumed_there Tax o c was now = refl
consumed_there Adjustment o c was now = refl

status_there : (k : Kind) (c : Option Commitment)
    → is_some (by_kind k (option_map (λ c. codes "Used") c) None None) ≡ (is_same (category_text k) (codes "Usage") && is_some (option_map (λ c. c.id) c))
status_there Usage c = map_there (λ c. codes "Used") c ∙ sym (map_there (λ c. c.id) c)
status_there Purchase c = refl
status_there Credit c = refl
status_there Tax c = refl
status_there Adjustment c = refl

named_on : (k : Kind) (o : Option Commitment) → is_some (option_map (λ c. c.id) (if is_priced k then o else None)) ≡ true
    → (is_same (category_text k) (codes "Usage") || is_same (category_text k) (codes "Purchase")) ≡ true
named_on Usage o there = refl
named_on Purchase o there = refl
named_on Credit o there = there
named_on Tax o there = there
named_on Adjustment o there = there

category_there : (k : Kind) (c : Option Commitment)
    → is_some (by_kind k (if is_some c then Some (codes "Committed") else Some (codes "Standard")) (Some (codes "Standard")) None)
    ≡ (is_same (category_text k) (codes "Usage") || is_same (category_text k) (codes "Purchase"))
category_there Usage None = refl
category_there Usage (Some c) = refl
category_there Purchase c = refl
category_there Credit c = refl
category_there Tax c = refl
category_there Adjustment c = refl

module _ (sheet : Sheet) (issuer : Issuer) (h : Holding) (period : ℕ) (from to : Cut) where
  pub price_columns : All (λ x. PriceColumnsAre (is_some x.pricing_quantity) x) (rows sheet issuer h period from to)
  price_columns = any_row sheet issuer h period from to (λ x. PriceColumnsAre (is_some x.pricing_quantity) x) each
    where
      each : (r : Reading) (class : ChargeClass) (was now : ℤ) → PriceColumnsAre (is_some (row sheet issuer r period class was now).pricing_quantity) (row sheet issuer r period class was now)
      each r class was now =
          let price = price_of sheet r in
          let there = sym (quantity_there r.kind (price_in_force sheet r.key (day_of r.start)) (commitment_of sheet r) was now) in
          record {
            pricing_quantity = refl;
            pricing_unit = map_there (λ p. p.pricing_unit) price ∙ there;
            list_unit_price = map_there (λ p. p.list) price ∙ there;
            contracted_unit_price = map_there (λ p. p.contracted) price ∙ there;
            sku_id = map_there (λ p. p.sku) price ∙ there;
            sku_price_id = map_there (λ p. p.price_id) price ∙ there;
          }

  pub consumed_columns : All (λ x. is_some x.consumed_quantity ≡ is_some x.consumed_unit) (rows sheet issuer h period from to)
  consumed_columns =
      any_row sheet issuer h period from to (λ x. is_some x.consumed_quantity ≡ is_some x.consumed_unit)
      (λ r class was now. consumed_there r.kind (price_in_force sheet r.key (day_of r.start)) (commitment_of sheet r) was now)

  pub commitment_columns : All (λ x. CommitmentColumnsAre (is_some x.commitment_discount_id) x) (rows sheet issuer h period from to)
  commitment_columns = any_row sheet issuer h period from to (λ x. CommitmentColumnsAre (is_some x.commitment_discount_id) x) each
    where
      each : (r : Reading) (class : ChargeClass) (was now : ℤ) → CommitmentColumnsAre (is_some (row sheet issuer r period class was now).commitment_discount_id) (row sheet issuer r period class was now)
      each r class was now =
          let c = commitment_of sheet r in
          let there = sym (map_there (λ (d : Commitment). d.id) c) in
          record { id = refl; category = map_there (λ d. commitment_category_text d.category) c ∙ there; type = map_there (λ d. d.kind) c ∙ there }

  pub status_column : All (λ x. is_some x.commitment_discount_status ≡ (is_usage x && is_some x.commitment_discount_id)) (rows sheet issuer h period from to)
  status_column =
      any_row sheet issuer h period from to (λ x. is_some x.commitment_discount_status ≡ (is_usage x && is_some x.commitment_discount_id))
      (λ r class was now. status_there r.kind (commitment_of sheet r))

  pub named_column : All (λ x. is_some x.commitment_discount_id ≡ true → (is_usage x || is_purchase x) ≡ true) (rows sheet issuer h period from to)
  named_column =
      any_row sheet issuer h period from to (λ x. is_some x.commitment_discount_id ≡ true → (is_usage x || is_purchase x) ≡ true)
      (λ r class was now. named_on r.kind (option_and_then (commitment_with sheet) (or_null r.commitment)))

  pub category_column : All (λ x. is_some x.pricing_category ≡ (is_usage x || is_purchase x)) (rows sheet issuer h period from to)
  category_column =
      any_row sheet issuer h period from to (λ x. is_some x.pricing_category ≡ (is_usage x || is_purchase x))
      (λ r class was now. category_there r.kind (commitment_of sheet r))

  pub region_columns : All (λ x. is_some x.region_id ≡ is_some x.region_name) (rows sheet issuer h period from to)
  region_columns =
      any_row sheet issuer h period from to (λ x. is_some x.region_id ≡ is_some x.region_name)
      (λ r class was now. sym (map_there (region_name_of sheet) (region_of r)))

-- ---- where the journals meet their rules

-- a fit reading of a priced kind has its price
price_there : (k : Kind) (o : Option PriceRow) (named : Bool) → (not (is_priced k) || (is_some (if is_priced k then o else None) && named)) ≡ true
    → is_some (if is_priced k then o else None) ≡ (is_same (category_text k) (codes "Usage") || is_same (category_text k) (codes "Purchase"))
price_there Usage None named e = absurd (both_ways false refl e)
price_there Usage (Some p) named e = refl
price_there Purchase None named e = absurd (both_ways false refl e)
price_there Purchase (Some p) named e = refl
price_there Credit o named e = refl
price_there Tax o named e = refl
price_there Adjustment o named e = refl

usage_there : (k : Kind) (o : Option PriceRow) (named : Bool) → (not (is_priced k) || (is_some (if is_priced k then o else None) && named)) ≡ true
    → is_some (by_kind k (option_map (λ p. p.consumed_unit) (if is_priced k then o else None)) None None) ≡ is_same (category_text k) (codes "Usage")
usage_there Usage None named e = absurd (both_ways false refl e)
usage_there Usage (Some p) named e = refl
usage_there Purchase o named e = refl
usage_there Credit o named e = refl
usage_there Tax o named e = refl
usage_there Adjustment o named e = refl

module _ (sheet : Sheet) (issuer : Issuer) (h : Holding) (period : ℕ) (from to : Cut) (rules : MeetsJournalRules sheet h) where
  pub prices_are_there : All (λ x. PriceColumnsAre (is_usage x || is_purchase x) x) (rows sheet issuer h period from to)
  prices_are_there = any_fit_row sheet issuer h period from to (λ x. PriceColumnsAre (is_usage x || is_purchase x) x) rules each
    where
      each : (r : Reading) (class : ChargeClass) (was now : ℤ) → is_fit_reading sheet r ≡ true
          → PriceColumnsAre (is_usage (row sheet issuer r period class was now) || is_purchase (row sheet issuer r period class was now)) (row sheet issuer r period class was now)
      each r class was now fit =
          let price = price_of sheet r in
          let there = price_there r.kind (price_in_force sheet r.key (day_of r.start)) (is_fit_commitment r (commitment_of sheet r)) fit in
          record {
            pricing_quantity = quantity_there r.kind (price_in_force sheet r.key (day_of r.start)) (commitment_of sheet r) was now ∙ there;
            pricing_unit = map_there (λ p. p.pricing_unit) price ∙ there;
            list_unit_price = map_there (λ p. p.list) price ∙ there;
            contracted_unit_price = map_there (λ p. p.contracted) price ∙ there;
            sku_id = map_there (λ p. p.sku) price ∙ there;
            sku_price_id = map_there (λ p. p.price_id) price ∙ there;
          }

  pub consumed_are_there : All (λ x. is_some x.consumed_quantity ≡ is_usage x) (rows sheet issuer h period from to)
  consumed_are_there =
      any_fit_row sheet issuer h period from to (λ x. is_some x.consumed_quantity ≡ is_usage x) rules
      (λ r class was now fit.
      consumed_there r.kind (price_in_force sheet r.key (day_of r.start)) (commitment_of sheet r) was now
      ∙ usage_there r.kind (price_in_force sheet r.key (day_of r.start)) (is_fit_commitment r (commitment_of sheet r)) fit)

-- ---- commitments

billed_there : (k : Kind) (o : Option PriceRow) (c : Option Commitment) (was now : ℤ) (named : Bool)
    → (not (is_priced k) || (is_some (if is_priced k then o else None) && named)) ≡ true
    → (charge (priced_kind k) (if is_priced k then o else None) c was now).billed
    ≡ (if is_same (category_text k) (codes "Usage") && is_some (option_map (λ d. d.id) c) then pos 0 else (charge (priced_kind k) (if is_priced k then o else None) c was now).contracted)
billed_there Usage None c was now named e = absurd (both_ways false refl e)
billed_there Usage (Some p) None was now named e = refl
billed_there Usage (Some p) (Some c) was now named e = refl
billed_there Purchase None c was now named e = absurd (both_ways false refl e)
billed_there Purchase (Some p) c was now named e = refl
billed_there Credit o c was now named e = refl
billed_there Tax o c was now named e = refl
billed_there Adjustment o c was now named e = refl

effective_alone : (kind : Option PricedKind) (price : Option PriceRow) (c : Option Commitment) (was now : ℤ)
    → option_map (λ d. d.id) c ≡ None → (charge kind price c was now).effective ≡ (charge kind price c was now).contracted
effective_alone kind price (Some c) was now e = absurd (none-some c.id (sym e))
effective_alone None price None was now e = refl
effective_alone (Some kind) None None was now e = refl
effective_alone (Some PricedUsage) (Some p) None was now e = refl
effective_alone (Some PricedPurchase) (Some p) None was now e = refl

bought_there : (k : Kind) (o : Option PriceRow) (c : Option Commitment) (was now : ℤ) (named : Bool)
    → (not (is_priced k) || (is_some (if is_priced k then o else None) && named)) ≡ true
    → is_same (category_text k) (codes "Purchase") ≡ true → is_some (option_map (λ d. d.id) c) ≡ true
    → (charge (priced_kind k) (if is_priced k then o else None) c was now).effective ≡ pos 0
bought_there Purchase None c was now named e is there = absurd (both_ways false refl e)
bought_there Purchase (Some p) None was now named e is there = absurd (both_ways false refl there)
bought_there Purchase (Some p) (Some c) was now named e is there = refl
bought_there Usage o c was now named e is there = absurd (both_ways false refl is)
bought_there Credit o c was now named e is there = absurd (both_ways false refl is)
bought_there Tax o c was now named e is there = absurd (both_ways false refl is)
bought_there Adjustment o c was now named e is there = absurd (both_ways false refl is)

-- what is found by its id is found by it again
found_passes : {A : Type 0} (test : A → Bool) (xs : List A) (y : A) → find test xs ≡ Some y → test y ≡ true
found_passes test [] y e = absurd (none-some y e)
found_passes test (x ∷ xs) y e = elim (cases_Bool (test x)) [
  | inl t ↦ subst (λ z. test z ≡ true) (same_Some x y (sym (cond-true (test x) (Some x) (find test xs) t) ∙ e)) t
  | inr f ↦ found_passes test xs y (sym (cond-false (test x) (Some x) (find test xs) f) ∙ e)
]

found_again : (sheet : Sheet) (k : Kind) (o : Option (List ℕ)) (c : Commitment)
    → (if is_priced k then option_and_then (commitment_with sheet) o else None) ≡ Some c → commitment_with sheet c.id ≡ Some c
found_again sheet k o c e = named o (when_some (is_priced k) _ c e).1
  where
    named : (o : Option (List ℕ)) → option_and_then (commitment_with sheet) o ≡ Some c → commitment_with sheet c.id ≡ Some c
    named None f = absurd (none-some c f)
    named (Some id) f = ap (commitment_with sheet) (same_read c.id id (found_passes (λ d. is_same d.id id) sheet.commitments c f)) ∙ f

used_there : (sheet : Sheet) (k : Kind) (o : Option PriceRow) (c : Option Commitment) (was now : ℤ) (id : List ℕ) (q : ℤ)
    → ((d : Commitment) → c ≡ Some d → commitment_with sheet d.id ≡ Some d)
    → is_same (category_text k) (codes "Usage") ≡ true → option_map (λ d. d.id) c ≡ Some id
    → (charge (priced_kind k) (if is_priced k then o else None) c was now).priced ≡ Some q
    → option_map (λ d. pos d.rate *ℤ q) (commitment_with sheet id) ≡ Some (charge (priced_kind k) (if is_priced k then o else None) c was now).effective
used_there sheet Usage o None was now id q again is e f = absurd (none-some id e)
used_there sheet Usage None (Some c) was now id q again is e f = absurd (none-some q f)
used_there sheet Usage (Some p) (Some c) was now id q again is e f =
    ap (option_map (λ (d : Commitment). pos d.rate *ℤ q)) (ap (commitment_with sheet) (sym (same_Some c.id id e)) ∙ again c refl)
    ∙ ap (λ n. Some (pos c.rate *ℤ n)) (sym (same_Some _ q f))
used_there sheet Purchase o c was now id q again is e f = absurd (both_ways false refl is)
used_there sheet Credit o c was now id q again is e f = absurd (both_ways false refl is)
used_there sheet Tax o c was now id q again is e f = absurd (both_ways false refl is)
used_there sheet Adjustment o c was now id q again is e f = absurd (both_ways false refl is)

module _ (sheet : Sheet) (issuer : Issuer) (h : Holding) (period : ℕ) (from to : Cut) where
  pub billed_costs : MeetsJournalRules sheet h
      → All (λ x. x.billed_cost ≡ (if is_usage x && is_some x.commitment_discount_id then pos 0 else x.contracted_cost)) (rows sheet issuer h period from to)
  billed_costs rules =
      any_fit_row sheet issuer h period from to (λ x. x.billed_cost ≡ (if is_usage x && is_some x.commitment_discount_id then pos 0 else x.contracted_cost)) rules
      (λ r class was now fit. billed_there r.kind (price_in_force sheet r.key (day_of r.start)) (commitment_of sheet r) was now (is_fit_commitment r (commitment_of sheet r)) fit)

  pub effective_costs : All (λ x. x.commitment_discount_id ≡ None → x.effective_cost ≡ x.contracted_cost) (rows sheet issuer h period from to)
  effective_costs =
      any_row sheet issuer h period from to (λ x. x.commitment_discount_id ≡ None → x.effective_cost ≡ x.contracted_cost)
      (λ r class was now. effective_alone (priced_kind r.kind) (price_of sheet r) (commitment_of sheet r) was now)

  pub bought_costs : MeetsJournalRules sheet h
      → All (λ x. is_purchase x ≡ true → is_some x.commitment_discount_id ≡ true → x.effective_cost ≡ pos 0) (rows sheet issuer h period from to)
  bought_costs rules =
      any_fit_row sheet issuer h period from to (λ x. is_purchase x ≡ true → is_some x.commitment_discount_id ≡ true → x.effective_cost ≡ pos 0) rules
      (λ r class was now fit. bought_there r.kind (price_in_force sheet r.key (day_of r.start)) (commitment_of sheet r) was now (is_fit_commitment r (commitment_of sheet r)) fit)

  pub used_costs : All (λ x. (id : List ℕ) (q : ℤ) → is_usage x ≡ true → x.commitment_discount_id ≡ Some id → x.pricing_quantity ≡ Some q
      → option_map (λ c. pos c.rate *ℤ q) (commitment_with sheet id) ≡ Some x.effective_cost) (rows sheet issuer h period from to)
  used_costs =
      any_row sheet issuer h period from to (λ x. (id : List ℕ) (q : ℤ) → is_usage x ≡ true → x.commitment_discount_id ≡ Some id → x.pricing_quantity ≡ Some q
      → option_map (λ c. pos c.rate *ℤ q) (commitment_with sheet id) ≡ Some x.effective_cost)
      (λ r class was now id q. used_there sheet r.kind (price_in_force sheet r.key (day_of r.start)) (commitment_of sheet r) was now id q (λ d. found_again sheet r.kind (or_null r.commitment) d))
