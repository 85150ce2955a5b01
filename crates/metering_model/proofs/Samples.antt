-- The samples that the worked examples speak of.
use Rattle.std.specs.Prelude.{ℕ, List, [], ◌∷◌, ◌++◌, pos, codes}
use Rattle.metering_model.specs.Sheet.{PriceRow, Commitment, Region, Sheet, Issuer, Compute, Storage}
use Rattle.metering_model.specs.declared.CommitmentCategory.TheVariants.{Usage}
use Rattle.metering_model.specs.Schedule.{TextLines}

abbrev pub sheet_0_lines : TextLines
sheet_0_lines = codes "base = \"2025-01\"" ∷ codes "[[price]]" ∷ codes "sku = \"cpu\"" ∷ codes "price_id = \"cpu-od\"" ∷
    codes "from = \"2025-01-01\"" ∷ codes "description = \"Virtual CPU time\"" ∷
    codes "service = \"Sample Compute\"" ∷ codes "category = \"Compute\"" ∷ codes "consumed_unit = \"Seconds\"" ∷
    codes "pricing_unit = \"Hours\"" ∷ codes "per = 3600" ∷ codes "list = \"0.1\"" ∷
    codes "contracted = \"0.08\"" ∷ []

-- the same with a region behind its price
abbrev pub sheet_with_region_lines : TextLines
sheet_with_region_lines = codes "base = \"2025-01\"" ∷ codes "[[price]]" ∷ codes "sku = \"cpu\"" ∷ codes "price_id = \"cpu-od\"" ∷
    codes "from = \"2025-01-01\"" ∷ codes "description = \"Virtual CPU time\"" ∷
    codes "service = \"Sample Compute\"" ∷ codes "category = \"Compute\"" ∷ codes "consumed_unit = \"Seconds\"" ∷
    codes "pricing_unit = \"Hours\"" ∷ codes "per = 3600" ∷ codes "list = \"0.1\"" ∷
    codes "contracted = \"0.08\"" ∷ codes "[[region]]" ∷ codes "id = \"eu-1\"" ∷ codes "name = \"Europe 1\"" ∷ []

abbrev pub sheet_1_lines : TextLines
sheet_1_lines = codes "base = \"2025-01\"" ∷ codes "[[price]]" ∷ codes "sku = \"cpu\"" ∷ codes "price_id = \"cpu-od\"" ∷
    codes "from = \"2025-01-01\"" ∷ codes "description = \"Virtual CPU time\"" ∷
    codes "service = \"Sample Compute\"" ∷ codes "category = \"Compute\"" ∷ codes "consumed_unit = \"Seconds\"" ∷
    codes "pricing_unit = \"Hours\"" ∷ codes "per = 3600" ∷ codes "list = \"0.1\"" ∷
    codes "contracted = \"0.08\"" ∷ codes "[[price]]" ∷ codes "sku = \"ops\"" ∷ codes "price_id = \"ops-od\"" ∷
    codes "from = \"2025-01-01\"" ∷ codes "description = \"Object requests\"" ∷
    codes "service = \"Sample Storage\"" ∷ codes "category = \"Storage\"" ∷ codes "consumed_unit = \"Requests\"" ∷
    codes "pricing_unit = \"Request Pairs\"" ∷ codes "per = 2" ∷ codes "list = \"1\"" ∷
    codes "contracted = \"1\"" ∷ codes "[[price]]" ∷ codes "sku = \"cpu-plan\"" ∷
    codes "price_id = \"cpu-plan-1\"" ∷ codes "from = \"2025-01-01\"" ∷
    codes "description = \"Virtual CPU plan\"" ∷ codes "service = \"Sample Compute\"" ∷
    codes "category = \"Compute\"" ∷ codes "consumed_unit = \"Plans\"" ∷ codes "pricing_unit = \"Plans\"" ∷
    codes "per = 1" ∷ codes "list = \"50\"" ∷ codes "contracted = \"40\"" ∷ codes "[[commitment]]" ∷
    codes "id = \"cm-1\"" ∷ codes "sku = \"cpu\"" ∷ codes "buy = \"cpu-plan\"" ∷ codes "category = \"Usage\"" ∷
    codes "type = \"Reserved\"" ∷ codes "rate = \"0.05\"" ∷ []

abbrev pub issuer_1_lines : TextLines
issuer_1_lines = codes "provider = \"Sample Cloud\"" ∷ codes "publisher = \"Sample Cloud\"" ∷
    codes "issuer = \"Sample Cloud Ltd\"" ∷ codes "account_id = \"A-100\"" ∷ codes "account_name = \"Payer\"" ∷
    codes "currency = \"USD\"" ∷ codes "other_service = \"Billing\"" ∷ []

abbrev pub january_2025 : ℕ
january_2025 = 24_300

abbrev pub cpu : PriceRow
cpu = record {
  sku = codes "cpu";
  price_id = codes "cpu-od";
  from = pos 20_089;
  description = codes "Virtual CPU time";
  service = codes "Sample Compute";
  category = Compute;
  consumed_unit = codes "Seconds";
  pricing_unit = codes "Hours";
  per = 3_600;
  list = 100_000;
  contracted = 80_000;
}

abbrev pub ops : PriceRow
ops = record {
  sku = codes "ops";
  price_id = codes "ops-od";
  from = pos 20_089;
  description = codes "Object requests";
  service = codes "Sample Storage";
  category = Storage;
  consumed_unit = codes "Requests";
  pricing_unit = codes "Request Pairs";
  per = 2;
  list = 1_000_000;
  contracted = 1_000_000;
}

abbrev pub cpu_plan : PriceRow
cpu_plan = record {
  sku = codes "cpu-plan";
  price_id = codes "cpu-plan-1";
  from = pos 20_089;
  description = codes "Virtual CPU plan";
  service = codes "Sample Compute";
  category = Compute;
  consumed_unit = codes "Plans";
  pricing_unit = codes "Plans";
  per = 1;
  list = 50_000_000;
  contracted = 40_000_000;
}

abbrev pub cm_1 : Commitment
cm_1 = record {
  id = codes "cm-1";
  sku = codes "cpu";
  buy = codes "cpu-plan";
  category = Usage;
  kind = codes "Reserved";
  rate = 50_000;
}

abbrev pub sheet_0 : Sheet
sheet_0 = record { base = january_2025; prices = cpu ∷ []; commitments = []; regions = [] }

abbrev pub sheet_1 : Sheet
sheet_1 = record { base = january_2025; prices = cpu ∷ ops ∷ cpu_plan ∷ []; commitments = cm_1 ∷ []; regions = [] }

abbrev pub empty_sheet : Sheet
empty_sheet = record { base = january_2025; prices = []; commitments = []; regions = [] }

-- one region has a name
abbrev pub europe : Region
europe = record { id = codes "eu-1"; name = codes "Europe 1" }

abbrev pub sheet_with_region : Sheet
sheet_with_region = record sheet_0 { regions = europe ∷ [] }

abbrev pub issuer_1 : Issuer
issuer_1 = record {
  provider = codes "Sample Cloud";
  publisher = codes "Sample Cloud";
  issuer = codes "Sample Cloud Ltd";
  account_id = codes "A-100";
  account_name = codes "Payer";
  currency = codes "USD";
  other_service = codes "Billing";
}

abbrev pub reading_1 : List ℕ
reading_1 = codes "U|2025-01-10T00:00:00Z|2025-01-10T02:00:00Z|acc-7|vm-1|cpu|5400||env=prod"

-- the line of a file for that reading, under the first sheet
abbrev pub row_1 : List ℕ
row_1 = codes "0.12,A-100,Payer,USD,2025-02-01T00:00:00Z,2025-01-01T00:00:00Z,Usage,,Virtual CPU time,Usage-Based,2025-01-10T02:00:00Z,"
    ++ codes "2025-01-10T00:00:00Z,,,,,5400,Seconds,0.12,0.08,0.12,Sample Cloud Ltd,0.15,0.1,Standard,1.5,Hours,Sample Cloud,Sample Cloud,,"
    ++ codes ",vm-1,Compute,Sample Compute,cpu,cpu-od,acc-7,\"{\"\"env\"\":\"\"prod\"\"}\""
