-- The columns of a line behind the first, in runs that mostly change together. They are read off the table of columns: a run is told
-- by the name that it begins with and the one behind it, so a column that comes to stand in between is in the run.
use Rattle.std.specs.Prelude.{ℕ, if◌then◌else◌, List, [], ◌∷◌, map, codes}
use Rattle.std.specs.List.{flat_map}
use Rattle.std.specs.Str.{bytes_eq}
use Rattle.metering_model.specs.NumberText.{spelling}
use Rattle.metering_model.specs.File.{Column, columns, json_object, price_or_null, quantity_or_null, quoted}
use Rattle.metering_model.specs.Row.{Row}

-- the texts of fields, each behind a comma
abbrev pub behind : List (List ℕ) → List ℕ
behind fs = flat_map (λ f. 44 ∷ quoted f) fs

-- columns from the one of this name on
abbrev pub from_name : List ℕ → List Column → List Column
from_name name [] = []
from_name name (c ∷ cs) = if bytes_eq c.name name then c ∷ cs else from_name name cs

-- columns as far as the one of this name, which is left out
abbrev pub up_to_name : List ℕ → List Column → List Column
up_to_name name [] = []
up_to_name name (c ∷ cs) = if bytes_eq c.name name then [] else c ∷ up_to_name name cs

-- a row's fields from one name on, as far as another
abbrev pub run_of : List ℕ → List ℕ → Row → List (List ℕ)
run_of first next r = map (λ c. c.field r) (up_to_name next (from_name first columns))

unfoldable pub billing_columns : Row → List (List ℕ)
billing_columns = run_of (codes "BillingAccountId") (codes "ChargeCategory")

unfoldable pub charge_columns : Row → List (List ℕ)
charge_columns = run_of (codes "ChargeCategory") (codes "ChargePeriodEnd")

unfoldable pub moment_columns : Row → List (List ℕ)
moment_columns = run_of (codes "ChargePeriodEnd") (codes "ConsumedQuantity")

abbrev pub unit_columns : Row → List (List ℕ)
unit_columns = run_of (codes "ConsumedUnit") (codes "ContractedCost")

abbrev pub issuer_columns : Row → List (List ℕ)
issuer_columns = run_of (codes "InvoiceIssuerName") (codes "ListCost")

abbrev pub category_columns : Row → List (List ℕ)
category_columns = run_of (codes "PricingCategory") (codes "PricingQuantity")

abbrev pub pricing_columns : Row → List (List ℕ)
pricing_columns = run_of (codes "PricingUnit") (codes "ProviderName")

unfoldable pub seller_columns : Row → List (List ℕ)
seller_columns = run_of (codes "ProviderName") (codes "RegionId")

unfoldable pub region_columns : Row → List (List ℕ)
region_columns = run_of (codes "RegionId") (codes "ResourceId")

abbrev pub resource_columns : Row → List (List ℕ)
resource_columns = run_of (codes "ResourceId") (codes "ServiceCategory")

unfoldable pub service_columns : Row → List (List ℕ)
service_columns = run_of (codes "ServiceCategory") (codes "SubAccountId")

abbrev pub account_columns : Row → List (List ℕ)
account_columns = run_of (codes "SubAccountId") (codes "Tags")

-- all of them, in order
abbrev pub line_runs : Row → List (List (List ℕ))
line_runs r =
    billing_columns r ∷ charge_columns r ∷ moment_columns r ∷ (quantity_or_null r.consumed_quantity ∷ []) ∷ unit_columns r
    ∷ (spelling 12 r.contracted_cost ∷ []) ∷ (price_or_null r.contracted_unit_price ∷ []) ∷ (spelling 12 r.effective_cost ∷ [])
    ∷ issuer_columns r ∷ (spelling 12 r.list_cost ∷ []) ∷ (price_or_null r.list_unit_price ∷ []) ∷ category_columns r
    ∷ (quantity_or_null r.pricing_quantity ∷ []) ∷ pricing_columns r ∷ seller_columns r ∷ region_columns r ∷ resource_columns r ∷ service_columns r
    ∷ account_columns r ∷ (json_object r.tags ∷ []) ∷ []
