-- The pieces of a line that are those of a row.
use Rattle.std.specs.Prelude.{◌≡◌, ℕ, false, IsTrue, List, [], ◌∷◌, ◌++◌, Option, MatchOption, string_bytes}
use Rattle.metering_model.specs.NumberText.{spelling}
use Rattle.metering_model.specs.File.{json_object, price_or_null, quantity_or_null, quoted}
use Rattle.metering_model.specs.Row.{Row}
use Rattle.focus_csv.specs.declared.pieces.LinePieces.{LinePieces}
use Rattle.focus_csv.specs.declared.texts.TextPieces.{TextPieces}
use Rattle.focus_csv.specs.declared.numbers.NumberPieces.{NumberPieces}
use Rattle.focus_csv.specs.Inner.Runs.{behind, billing_columns, charge_columns, moment_columns, unit_columns, issuer_columns, category_columns, pricing_columns, seller_columns, region_columns, resource_columns, service_columns, account_columns}

-- all bytes of the pieces of texts
abbrev pub text_bytes : TextPieces → List ℕ
text_bytes p =
    p.billing.items ++ p.charge.items ++ p.moment.items ++ p.unit.items ++ p.issuer.items ++ p.category.items ++ p.pricing.items ++ p.seller.items ++ p.region.items
    ++ p.resource.items ++ p.service.items ++ p.account.items

-- all bytes of the pieces of numbers
abbrev pub number_bytes : NumberPieces → List ℕ
number_bytes p =
    string_bytes p.billed_cost ++ string_bytes p.consumed_quantity ++ string_bytes p.contracted_cost ++ string_bytes p.contracted_unit_price
    ++ string_bytes p.effective_cost ++ string_bytes p.list_cost ++ string_bytes p.list_unit_price ++ string_bytes p.pricing_quantity

-- all bytes of the pieces of a line
abbrev pub line_bytes : LinePieces → List ℕ
line_bytes p = number_bytes p.numbers ++ text_bytes p.texts ++ p.tags.items

-- all pieces in the order of the line, and its line feed
abbrev pub piece_list : LinePieces → List (List ℕ)
piece_list p =
    string_bytes p.numbers.billed_cost ∷ p.texts.billing.items ∷ p.texts.charge.items ∷ p.texts.moment.items ∷ string_bytes p.numbers.consumed_quantity
    ∷ p.texts.unit.items ∷ string_bytes p.numbers.contracted_cost ∷ string_bytes p.numbers.contracted_unit_price ∷ string_bytes p.numbers.effective_cost
    ∷ p.texts.issuer.items ∷ string_bytes p.numbers.list_cost ∷ string_bytes p.numbers.list_unit_price ∷ p.texts.category.items
    ∷ string_bytes p.numbers.pricing_quantity ∷ p.texts.pricing.items ∷ p.texts.seller.items ∷ p.texts.region.items ∷ p.texts.resource.items
    ∷ p.texts.service.items ∷ p.texts.account.items ∷ p.tags.items ∷ (10 ∷ []) ∷ []

pub record AreTextsOf (p : TextPieces) (r : Row) : Type 0 where
  pub billing : p.billing.items ≡ behind (billing_columns r)
  pub charge : p.charge.items ≡ behind (charge_columns r)
  pub moment : p.moment.items ≡ behind (moment_columns r)
  pub unit : p.unit.items ≡ behind (unit_columns r)
  pub issuer : p.issuer.items ≡ behind (issuer_columns r)
  pub category : p.category.items ≡ behind (category_columns r)
  pub pricing : p.pricing.items ≡ behind (pricing_columns r)
  pub seller : p.seller.items ≡ behind (seller_columns r)
  pub region : p.region.items ≡ behind (region_columns r)
  pub resource : p.resource.items ≡ behind (resource_columns r)
  pub service : p.service.items ≡ behind (service_columns r)
  pub account : p.account.items ≡ behind (account_columns r)

-- The first number stands at the beginning of a line, and so without a comma.
pub record AreNumbersOf (p : NumberPieces) (r : Row) : Type 0 where
  pub billed_cost : string_bytes p.billed_cost ≡ quoted (spelling 12 r.billed_cost)
  pub consumed_quantity : string_bytes p.consumed_quantity ≡ behind (quantity_or_null r.consumed_quantity ∷ [])
  pub contracted_cost : string_bytes p.contracted_cost ≡ behind (spelling 12 r.contracted_cost ∷ [])
  pub contracted_unit_price : string_bytes p.contracted_unit_price ≡ behind (price_or_null r.contracted_unit_price ∷ [])
  pub effective_cost : string_bytes p.effective_cost ≡ behind (spelling 12 r.effective_cost ∷ [])
  pub list_cost : string_bytes p.list_cost ≡ behind (spelling 12 r.list_cost ∷ [])
  pub list_unit_price : string_bytes p.list_unit_price ≡ behind (price_or_null r.list_unit_price ∷ [])
  pub pricing_quantity : string_bytes p.pricing_quantity ≡ behind (quantity_or_null r.pricing_quantity ∷ [])

-- Put behind one another they are the line of the row.
pub record AreOf (p : LinePieces) (r : Row) : Type 0 where
  pub numbers : AreNumbersOf p.numbers r
  pub texts : AreTextsOf p.texts r
  pub tags : p.tags.items ≡ behind (json_object r.tags ∷ [])

-- The pieces, where they are held, are those of the last row. Before the first row none are.
abbrev pub AreOfLast : Option Row → LinePieces → Type 0
AreOfLast row p = MatchOption row (p.are_held ≡ false) (λ r. IsTrue p.are_held → AreOf p r)
