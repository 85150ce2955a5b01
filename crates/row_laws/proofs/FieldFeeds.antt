-- No field of a row has a line feed, where the texts of the sheet and of the issuer have none.
use Rattle.std.proofs.Common.{◌≡◌, ℕ, ◌+◌, ◌<◌, ◌&&◌, Bool, true, false, List, [], ◌∷◌, Option, Some, None, unwrap_or, option_map, codes, ℤ, pos, unsigned_abs, length, All, refl, arith}
use Rattle.std.specs.Prelude.{if◌then◌else◌, ◌==◌}
use Rattle.std.specs.List.{list_all}
use Rattle.std.specs.Option.{is_some, option_map_or, option_and_then, option_to_list}
use Rattle.std.proofs.lemmas.Bool.{and_parts, and_from}
use Rattle.std.proofs.lemmas.Bool.Decides.{nat_tests}
use Rattle.metering_model.specs.NumberText.{spelling, value_limit, delta_limit, price_limit, cost_limit}
use Rattle.metering_model.specs.declared.Kind.{Kind}
use Rattle.metering_model.specs.declared.Kind.TheVariants.{Usage, Purchase, Credit, Tax, Adjustment}
use Rattle.metering_model.specs.declared.ServiceCategory.{ServiceCategory}
use Rattle.metering_model.specs.declared.ServiceCategory.TheVariants as service
use Rattle.metering_model.specs.declared.CommitmentCategory.{CommitmentCategory}
use Rattle.metering_model.specs.declared.CommitmentCategory.TheVariants as commitment
use Rattle.metering_model.specs.Batch.{Reading, IsReading, is_field, lacks}
use Rattle.metering_model.specs.Sheet.{Sheet, Issuer, PriceRow, Commitment, Region, service_category_text, commitment_category_text}
use Rattle.metering_model.specs.declared.ChargeClass.{ChargeClass}
use Rattle.metering_model.specs.declared.ChargeClass.TheVariants.{New, Correction}
use Rattle.metering_model.specs.Row.{row, class_text, category_text, by_kind, or_null, price_of, commitment_of, region_name_of}
use Rattle.metering_model.specs.PriceInForce.{region_with}
use Rattle.metering_model.specs.File.{text_or_null, quantity_or_null, price_or_null, fields_of_row}
use Rattle.metering_model.specs.SheetRules.{is_printable, is_label, is_capital, IsPriceRow, IsCommitment, IsRegion, IsSheet, IsIssuer}
use Rattle.metering_model.proofs.LineFeeds.{is_no_feed, field_lacks_feed, stamp_lacks_feed, month_lacks_feed, json_lacks_feed, spelling_lacks_feed}
use Rattle.metering_model.proofs.SheetLaws.{price_has, commitment_has, region_has}
use Rattle.metering_model.proofs.ChargeBounds.{charge_within_limits}
use Rattle.metering_model.proofs.Splitting.{list_all_weaker}

-- ---- texts of a sheet and of an issuer

printable_no_feed : (c : ℕ) → is_printable c ≡ true → is_no_feed c ≡ true
printable_no_feed c h = grind (arith, nat_tests)

label_one_line : (t : List ℕ) → is_label t ≡ true → lacks 10 t ≡ true
label_one_line t h = list_all_weaker is_printable is_no_feed printable_no_feed t (and_parts _ _ h).1

capital_no_feed : (c : ℕ) → is_capital c ≡ true → is_no_feed c ≡ true
capital_no_feed c h = grind (arith, nat_tests)

currency_one_line : (t : List ℕ) → (list_all is_capital t && (length t == 3)) ≡ true → lacks 10 t ≡ true
currency_one_line t h = list_all_weaker is_capital is_no_feed capital_no_feed t (and_parts _ _ h).0

-- ---- the fields of a row

category_one_line : (kind : Kind) → lacks 10 (category_text kind) ≡ true
category_one_line Usage = refl
category_one_line Purchase = refl
category_one_line Credit = refl
category_one_line Tax = refl
category_one_line Adjustment = refl

class_one_line : (class : ChargeClass) → lacks 10 (text_or_null (class_text class)) ≡ true
class_one_line New = refl
class_one_line Correction = refl

or_null_one_line : (t : List ℕ) → lacks 10 t ≡ true → lacks 10 (text_or_null (or_null t)) ≡ true
or_null_one_line [] h = refl
or_null_one_line (c ∷ cs) h = h

frequency_one_line : (kind : Kind) → lacks 10 (by_kind kind (codes "Usage-Based") (codes "One-Time") (codes "One-Time")) ≡ true
frequency_one_line Usage = refl
frequency_one_line Purchase = refl
frequency_one_line Credit = refl
frequency_one_line Tax = refl
frequency_one_line Adjustment = refl

-- what only usage has
usage_one_line : (kind : Kind) (o : Option (List ℕ)) → lacks 10 (text_or_null o) ≡ true → lacks 10 (text_or_null (by_kind kind o None None)) ≡ true
usage_one_line Usage o h = h
usage_one_line Purchase o h = refl
usage_one_line Credit o h = refl
usage_one_line Tax o h = refl
usage_one_line Adjustment o h = refl

pricing_category_one_line : (kind : Kind) (b : Bool) → lacks 10 (text_or_null (by_kind kind (if b then Some (codes "Committed") else Some (codes "Standard")) (Some (codes "Standard")) None)) ≡ true
pricing_category_one_line Usage true = refl
pricing_category_one_line Usage false = refl
pricing_category_one_line Purchase b = refl
pricing_category_one_line Credit b = refl
pricing_category_one_line Tax b = refl
pricing_category_one_line Adjustment b = refl

service_one_line : (c : ServiceCategory) → lacks 10 (service_category_text c) ≡ true
service_one_line service.Compute = refl
service_one_line service.Storage = refl
service_one_line service.Networking = refl
service_one_line service.Databases = refl
service_one_line service.Other = refl

discount_one_line : (c : CommitmentCategory) → lacks 10 (commitment_category_text c) ≡ true
discount_one_line commitment.Spend = refl
discount_one_line commitment.Usage = refl

-- a text of what may be missing
option_one_line : {A : Type 0} (f : A → List ℕ) (o : Option A) → ((a : A) → o ≡ Some a → lacks 10 (f a) ≡ true) → lacks 10 (text_or_null (option_map f o)) ≡ true
option_one_line f None h = refl
option_one_line f (Some a) h = h a refl

option_or_one_line : {A : Type 0} (f : A → List ℕ) (o : Option A) (t : List ℕ) → lacks 10 t ≡ true → ((a : A) → o ≡ Some a → lacks 10 (f a) ≡ true) → lacks 10 (option_map_or f o t) ≡ true
option_or_one_line f None t k h = k
option_or_one_line f (Some a) t k h = h a refl

quantity_one_line : (o : Option ℤ) → unsigned_abs (unwrap_or o (pos 0)) < delta_limit → lacks 10 (quantity_or_null o) ≡ true
quantity_one_line None h = refl
quantity_one_line (Some n) h = spelling_lacks_feed 6 n (omega arith)

price_one_line : {A : Type 0} (f : A → ℕ) (o : Option A) → ((a : A) → o ≡ Some a → f a < price_limit) → lacks 10 (price_or_null (option_map f o)) ≡ true
price_one_line f None h = refl
price_one_line f (Some a) h = let small = h a refl in spelling_lacks_feed 6 (pos (f a)) (omega arith)

cost_one_line : (n : ℤ) → unsigned_abs n < cost_limit → lacks 10 (spelling 12 n) ≡ true
cost_one_line n h = spelling_lacks_feed 12 n (omega arith)

-- a region that is not empty, and the name that the sheet gives it or else its id
region_one_line : (o : Option (List ℕ)) → list_all is_field (option_to_list o) ≡ true → lacks 10 (text_or_null (option_and_then or_null o)) ≡ true
region_one_line None h = refl
region_one_line (Some t) h = or_null_one_line t (field_lacks_feed t (and_parts (is_field t) true h).0)

name_one_line : (o : Option Region) (id : List ℕ) → lacks 10 id ≡ true → ((x : Region) → o ≡ Some x → IsRegion x) → lacks 10 (unwrap_or (option_map (λ x. x.name) o) id) ≡ true
name_one_line None id h rules = h
name_one_line (Some x) id h rules = label_one_line x.name (rules x refl).name

region_name_one_line : (sheet : Sheet) (o : Option (List ℕ)) → All IsRegion sheet.regions → list_all is_field (option_to_list o) ≡ true → lacks 10 (text_or_null (option_map (region_name_of sheet) (option_and_then or_null o))) ≡ true
region_name_one_line sheet None all h = refl
region_name_one_line sheet (Some []) all h = refl
region_name_one_line sheet (Some (c ∷ cs)) all h =
    name_one_line (region_with sheet (c ∷ cs)) (c ∷ cs) (field_lacks_feed (c ∷ cs) (and_parts (is_field (c ∷ cs)) true h).0) (λ x e. region_has IsRegion sheet (c ∷ cs) x all e)

-- ---- each column

-- two tests hold where each does: a line for each column, in the order of the table, and `refl` behind the last
infixr 10 ◌&◌
◌&◌ : {a b : Bool} → a ≡ true → b ≡ true → (a && b) ≡ true
h & k = and_from _ _ h k

pub fields_one_line : (sheet : Sheet) (issuer : Issuer) (r : Reading) (period : ℕ) (class : ChargeClass) (was now : ℤ) →
    IsSheet sheet → IsIssuer issuer → IsReading r → unsigned_abs was < value_limit → unsigned_abs now < value_limit →
    list_all (lacks 10) (fields_of_row (row sheet issuer r period class was now)) ≡ true
fields_one_line sheet issuer r period class was now ok i rule small_was small_now =
    let x = row sheet issuer r period class was now in
    let price = price_of sheet r in
    let discount = commitment_of sheet r in
    let costs = charge_within_limits sheet r was now ok small_was small_now in
    let priced = λ (p : PriceRow) (e : price ≡ Some p). price_has IsPriceRow sheet r p ok.prices e in
    let named = λ (c : Commitment) (e : discount ≡ Some c). commitment_has IsCommitment sheet r c ok.commitments e in
    let key = field_lacks_feed r.key (and_parts _ _ rule.key).0 in
    cost_one_line x.billed_cost costs.billed
    & label_one_line issuer.account_id i.account_id
    & label_one_line issuer.account_name i.account_name
    & currency_one_line issuer.currency i.currency
    & month_lacks_feed (sheet.base + period + 1)
    & month_lacks_feed (sheet.base + period)
    & category_one_line r.kind
    & class_one_line class
    & option_or_one_line (λ (p : PriceRow). p.description) price r.key key (λ p e. label_one_line p.description (priced p e).description)
    & frequency_one_line r.kind
    & stamp_lacks_feed r.end_text r.end rule.end
    & stamp_lacks_feed r.start_text r.start rule.start
    & option_one_line (λ (c : Commitment). commitment_category_text c.category) discount (λ c e. discount_one_line c.category)
    & option_one_line (λ (c : Commitment). c.id) discount (λ c e. label_one_line c.id (named c e).id)
    & usage_one_line r.kind (option_map (λ (c : Commitment). codes "Used") discount) (option_one_line (λ (c : Commitment). codes "Used") discount (λ c e. refl))
    & option_one_line (λ (c : Commitment). c.kind) discount (λ c e. label_one_line c.kind (named c e).kind)
    & quantity_one_line x.consumed_quantity costs.consumed
    & usage_one_line r.kind (option_map (λ (p : PriceRow). p.consumed_unit) price) (option_one_line (λ (p : PriceRow). p.consumed_unit) price (λ p e. label_one_line p.consumed_unit (priced p e).consumed_unit))
    & cost_one_line x.contracted_cost costs.contracted
    & price_one_line (λ (p : PriceRow). p.contracted) price (λ p e. (priced p e).contracted)
    & cost_one_line x.effective_cost costs.effective
    & label_one_line issuer.issuer i.issuer
    & cost_one_line x.list_cost costs.list
    & price_one_line (λ (p : PriceRow). p.list) price (λ p e. (priced p e).list)
    & pricing_category_one_line r.kind (is_some discount)
    & quantity_one_line x.pricing_quantity costs.priced
    & option_one_line (λ (p : PriceRow). p.pricing_unit) price (λ p e. label_one_line p.pricing_unit (priced p e).pricing_unit)
    & label_one_line issuer.provider i.provider
    & label_one_line issuer.publisher i.publisher
    & region_one_line r.region rule.region
    & region_name_one_line sheet r.region ok.regions rule.region
    & or_null_one_line r.resource (field_lacks_feed r.resource rule.resource)
    & option_or_one_line (λ (p : PriceRow). service_category_text p.category) price (codes "Other") refl (λ p e. service_one_line p.category)
    & option_or_one_line (λ (p : PriceRow). p.service) price issuer.other_service (label_one_line issuer.other_service i.other_service) (λ p e. label_one_line p.service (priced p e).service)
    & option_one_line (λ (p : PriceRow). p.sku) price (λ p e. label_one_line p.sku (priced p e).sku)
    & option_one_line (λ (p : PriceRow). p.price_id) price (λ p e. label_one_line p.price_id (priced p e).price_id)
    & or_null_one_line r.account (field_lacks_feed r.account rule.account)
    & json_lacks_feed r.tags (and_parts _ _ rule.tags).0
    & refl
