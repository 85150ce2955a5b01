-- The bytes of a file of rows: CSV as RFC 4180 quotes it, with lines that end in a line feed.
use Rattle.std.specs.Prelude.{ℕ, Bool, ◌||◌, ◌==◌, if◌then◌else◌, List, [], ◌∷◌, ◌++◌, map, Option, Some, None, ℤ, pos, codes}
use Rattle.std.specs.List.{list_any, flat_map, join_with_byte}
use Rattle.metering_model.specs.NumberText.{spelling}
use Rattle.metering_model.specs.Batch.{Tag}
use Rattle.metering_model.specs.Row.{Row}

-- each special byte behind a mark
abbrev pub marked : (ℕ → Bool) → ℕ → List ℕ → List ℕ
marked special mark t = flat_map (λ c. if special c then mark ∷ c ∷ [] else c ∷ []) t

-- a field that a reader of CSV would cut is put into quotation marks, with the inner ones doubled
abbrev pub quoted : List ℕ → List ℕ
quoted t =
    if list_any (λ c. (c == 44) || (c == 34) || (c == 13) || (c == 10)) t
    then 34 ∷ marked (λ c. c == 34) 34 t ++ 34 ∷ []
    else t

-- a string of JSON: a quotation mark and a backslash stand behind a backslash; no tag has a control character
abbrev pub json_string : List ℕ → List ℕ
json_string t = 34 ∷ marked (λ c. (c == 34) || (c == 92)) 92 t ++ 34 ∷ []

abbrev pub json_member : Tag → List ℕ
json_member t = json_string t.key ++ codes ":" ++ json_string t.value

-- the tags as one JSON object, without blanks
abbrev pub json_object : List Tag → List ℕ
json_object ts = codes "{" ++ join_with_byte 44 (map json_member ts) ++ codes "}"

abbrev pub text_or_null : Option (List ℕ) → List ℕ
text_or_null None = []
text_or_null (Some t) = t

abbrev pub quantity_or_null : Option ℤ → List ℕ
quantity_or_null None = []
quantity_or_null (Some n) = spelling 6 n

abbrev pub price_or_null : Option ℕ → List ℕ
price_or_null None = []
price_or_null (Some n) = spelling 6 (pos n)

-- A column: its name, and what stands in a row's field of it.
pub record Column : Type 0 where
  pub name : List ℕ
  pub field : Row → List ℕ

abbrev pub column : List ℕ → (Row → List ℕ) → Column
column name field = record { name = name; field = field }

-- the columns of a file, from left to right
abbrev pub columns : List Column
columns =
    column (codes "BilledCost") (λ r. spelling 12 r.billed_cost)
    ∷ column (codes "BillingAccountId") (λ r. r.billing_account_id)
    ∷ column (codes "BillingAccountName") (λ r. r.billing_account_name)
    ∷ column (codes "BillingCurrency") (λ r. r.billing_currency)
    ∷ column (codes "BillingPeriodEnd") (λ r. r.billing_period_end)
    ∷ column (codes "BillingPeriodStart") (λ r. r.billing_period_start)
    ∷ column (codes "ChargeCategory") (λ r. r.charge_category)
    ∷ column (codes "ChargeClass") (λ r. text_or_null r.charge_class)
    ∷ column (codes "ChargeDescription") (λ r. r.charge_description)
    ∷ column (codes "ChargeFrequency") (λ r. r.charge_frequency)
    ∷ column (codes "ChargePeriodEnd") (λ r. r.charge_period_end)
    ∷ column (codes "ChargePeriodStart") (λ r. r.charge_period_start)
    ∷ column (codes "CommitmentDiscountCategory") (λ r. text_or_null r.commitment_discount_category)
    ∷ column (codes "CommitmentDiscountId") (λ r. text_or_null r.commitment_discount_id)
    ∷ column (codes "CommitmentDiscountStatus") (λ r. text_or_null r.commitment_discount_status)
    ∷ column (codes "CommitmentDiscountType") (λ r. text_or_null r.commitment_discount_type)
    ∷ column (codes "ConsumedQuantity") (λ r. quantity_or_null r.consumed_quantity)
    ∷ column (codes "ConsumedUnit") (λ r. text_or_null r.consumed_unit)
    ∷ column (codes "ContractedCost") (λ r. spelling 12 r.contracted_cost)
    ∷ column (codes "ContractedUnitPrice") (λ r. price_or_null r.contracted_unit_price)
    ∷ column (codes "EffectiveCost") (λ r. spelling 12 r.effective_cost)
    ∷ column (codes "InvoiceIssuerName") (λ r. r.invoice_issuer_name)
    ∷ column (codes "ListCost") (λ r. spelling 12 r.list_cost)
    ∷ column (codes "ListUnitPrice") (λ r. price_or_null r.list_unit_price)
    ∷ column (codes "PricingCategory") (λ r. text_or_null r.pricing_category)
    ∷ column (codes "PricingQuantity") (λ r. quantity_or_null r.pricing_quantity)
    ∷ column (codes "PricingUnit") (λ r. text_or_null r.pricing_unit)
    ∷ column (codes "ProviderName") (λ r. r.provider_name)
    ∷ column (codes "PublisherName") (λ r. r.publisher_name)
    ∷ column (codes "RegionId") (λ r. text_or_null r.region_id)
    ∷ column (codes "RegionName") (λ r. text_or_null r.region_name)
    ∷ column (codes "ResourceId") (λ r. text_or_null r.resource_id)
    ∷ column (codes "ServiceCategory") (λ r. r.service_category)
    ∷ column (codes "ServiceName") (λ r. r.service_name)
    ∷ column (codes "SkuId") (λ r. text_or_null r.sku_id)
    ∷ column (codes "SkuPriceId") (λ r. text_or_null r.sku_price_id)
    ∷ column (codes "SubAccountId") (λ r. text_or_null r.sub_account_id)
    ∷ column (codes "Tags") (λ r. json_object r.tags)
    ∷ []

-- the names, joined by commas
abbrev pub header_line : List ℕ
header_line = join_with_byte 44 (map (λ c. c.name) columns)

abbrev pub fields_of_row : Row → List (List ℕ)
fields_of_row r = map (λ c. c.field r) columns

abbrev pub row_text : Row → List ℕ
row_text r = join_with_byte 44 (map quoted (fields_of_row r)) ++ 10 ∷ []

abbrev pub file : List Row → List ℕ
file rows = header_line ++ 10 ∷ flat_map row_text rows
