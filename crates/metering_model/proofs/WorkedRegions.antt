-- The columns of a file, and the two that a reading's region gives.
use Rattle.std.specs.Prelude.{◌≡◌, ℕ, List, [], ◌∷◌, ◌++◌, length, None, Ok, Err, codes, refl}
use Rattle.std.specs.Fmt.{digits}
use Rattle.jiff_core.specs.Calendar.{days_from_civil, day_count, days_of_years, days_of_months}
use Rattle.metering_model.specs.NumberText.{spelling, worth_of, decimals_of}
use Rattle.metering_model.specs.BatchReading.{batch_in, Fields}
use Rattle.metering_model.specs.Sheet.{Sheet}
use Rattle.metering_model.specs.PriceInForce.{region_named}
use Rattle.metering_model.specs.Holding.{Holding, put}
use Rattle.metering_model.specs.Row.{Row}
use Rattle.metering_model.specs.Rows.{rows}
use Rattle.metering_model.specs.File.{header_line, columns, fields_of_row, text_or_null, quantity_or_null, price_or_null, json_object, file}
use Rattle.metering_model.specs.Front.{front}
use Rattle.metering_model.specs.World.{Refused, BadBatch, Good, Journal, opening}
use Rattle.metering_model.specs.Step.{step}
use Rattle.metering_model.specs.Schedule.{lines_text, Schedule, PlansJournal, PlansDelivery, PlansStart, PlansExport, schedule_text, transcript_of}
use Rattle.metering_model.specs.Transcript.{line, reply_text}
use Rattle.metering_model.proofs.Samples.{january_2025, sheet_0, sheet_with_region, sheet_with_region_lines, empty_sheet, issuer_1, issuer_1_lines, reading_1, row_1}

-- ---- the table of columns, written out

header_line_text : header_line
    ≡ (codes "BilledCost,BillingAccountId,BillingAccountName,BillingCurrency,BillingPeriodEnd,BillingPeriodStart,ChargeCategory,"
    ++ codes "ChargeClass,ChargeDescription,ChargeFrequency,ChargePeriodEnd,ChargePeriodStart,CommitmentDiscountCategory,"
    ++ codes "CommitmentDiscountId,CommitmentDiscountStatus,CommitmentDiscountType,ConsumedQuantity,ConsumedUnit,ContractedCost,"
    ++ codes "ContractedUnitPrice,EffectiveCost,InvoiceIssuerName,ListCost,ListUnitPrice,PricingCategory,PricingQuantity,PricingUnit,"
    ++ codes "ProviderName,PublisherName,RegionId,RegionName,ResourceId,ServiceCategory,ServiceName,SkuId,SkuPriceId,SubAccountId,Tags")
header_line_text = refl

number_of_columns : length columns ≡ 38
number_of_columns = refl

-- a row's fields, in the order of the header line
fields_of_any_row : (r : Row) → fields_of_row r ≡
    spelling 12 r.billed_cost ∷ r.billing_account_id ∷ r.billing_account_name ∷ r.billing_currency
    ∷ r.billing_period_end ∷ r.billing_period_start
    ∷ r.charge_category ∷ text_or_null r.charge_class ∷ r.charge_description ∷ r.charge_frequency
    ∷ r.charge_period_end ∷ r.charge_period_start
    ∷ text_or_null r.commitment_discount_category ∷ text_or_null r.commitment_discount_id
    ∷ text_or_null r.commitment_discount_status ∷ text_or_null r.commitment_discount_type
    ∷ quantity_or_null r.consumed_quantity ∷ text_or_null r.consumed_unit
    ∷ spelling 12 r.contracted_cost ∷ price_or_null r.contracted_unit_price ∷ spelling 12 r.effective_cost ∷ r.invoice_issuer_name
    ∷ spelling 12 r.list_cost ∷ price_or_null r.list_unit_price ∷ text_or_null r.pricing_category
    ∷ quantity_or_null r.pricing_quantity ∷ text_or_null r.pricing_unit ∷ r.provider_name ∷ r.publisher_name
    ∷ text_or_null r.region_id ∷ text_or_null r.region_name
    ∷ text_or_null r.resource_id ∷ r.service_category ∷ r.service_name ∷ text_or_null r.sku_id
    ∷ text_or_null r.sku_price_id ∷ text_or_null r.sub_account_id ∷ json_object r.tags ∷ []
fields_of_any_row r = refl

-- ---- the file of a batch with a region

abbrev with_batch : Holding → List ℕ → Holding
with_batch h text = elim (batch_in text) [ Ok b ↦ put h b | Err fault ↦ h ]

-- the one batch of a reading with this region behind it
abbrev in_region : List ℕ → Holding
in_region region = with_batch [] (lines_text (codes "B2|1|1|1" ∷ (reading_1 ++ codes "|" ++ region) ∷ []))

abbrev file_in : Sheet → Holding → List ℕ
file_in sheet h = file (rows sheet issuer_1 h 0 (0 ∷ []) (1 ∷ []))

abbrev row_with : List ℕ → List ℕ
row_with fields = codes "0.12,A-100,Payer,USD,2025-02-01T00:00:00Z,2025-01-01T00:00:00Z,Usage,,Virtual CPU time,Usage-Based,2025-01-10T02:00:00Z,2025-01-10T00:00:00Z,,,,,5400,Seconds,0.12,0.08,0.12,Sample Cloud Ltd,0.15,0.1,Standard,1.5,Hours,Sample Cloud,Sample Cloud,"
    ++ fields ++ codes ",vm-1,Compute,Sample Compute,cpu,cpu-od,acc-7,\"{\"\"env\"\":\"\"prod\"\"}\""

named : file_in sheet_with_region (in_region (codes "eu-1")) ≡ lines_text (header_line ∷ row_with (codes "eu-1,Europe 1") ∷ [])
unfolding days_from_civil day_count days_of_years days_of_months worth_of decimals_of digits
named = refl

-- nothing of it is held back
named_front : front january_2025 (in_region (codes "eu-1")) (0 ∷ []) 0 ≡ 1 ∷ []
unfolding days_from_civil day_count days_of_years days_of_months worth_of decimals_of digits
named_front = refl

-- a region that the sheet does not name has its id for a name
not_named : file_in sheet_with_region (in_region (codes "us-9")) ≡ lines_text (header_line ∷ row_with (codes "us-9,us-9") ∷ [])
unfolding days_from_civil day_count days_of_years days_of_months worth_of decimals_of digits
not_named = refl

-- an empty region is null
empty : file_in sheet_with_region (in_region []) ≡ lines_text (header_line ∷ row_with (codes ",") ∷ [])
unfolding days_from_civil day_count days_of_years days_of_months worth_of decimals_of digits
empty = refl

-- so is that of format B1
none : file_in sheet_with_region (with_batch [] (lines_text (codes "B1|1|1|1" ∷ reading_1 ∷ []))) ≡ lines_text (header_line ∷ row_1 ∷ [])
unfolding days_from_civil day_count days_of_years days_of_months worth_of decimals_of digits
none = refl

named_on_no_sheet : region_named sheet_0 (codes "eu-1") ≡ None
named_on_no_sheet = refl

-- nine fields in B2
nine_fields : (step (opening 1 0 64 sheet_with_region issuer_1) (Journal (Good (lines_text (codes "B2|1|1|1" ∷ reading_1 ∷ []))))).0 ≡ Refused (BadBatch (record { code = Fields; line = 2 }))
nine_fields = refl

nine_fields_text : reply_text (Refused (BadBatch (record { code = Fields; line = 2 }))) ≡ line (codes "refused G1 V3 line 2")
unfolding digits
nine_fields_text = refl

-- a region is shown for each kind, and quoted where it must be
flat_charge : file_in empty_sheet (with_batch [] (lines_text (codes "B2|1|1|1" ∷ codes "C|2025-01-31T00:00:00Z|2025-02-01T00:00:00Z|acc-7||Launch credit|-2.5|||eu, \"west\"" ∷ []))) ≡ lines_text (
    header_line ∷
    codes "-2.5,A-100,Payer,USD,2025-02-01T00:00:00Z,2025-01-01T00:00:00Z,Credit,,Launch credit,One-Time,2025-02-01T00:00:00Z,2025-01-31T00:00:00Z,,,,,,,-2.5,,-2.5,Sample Cloud Ltd,-2.5,,,,,Sample Cloud,Sample Cloud,\"eu, \"\"west\"\"\",\"eu, \"\"west\"\"\",,Other,Billing,,,acc-7,{}" ∷
    [])
unfolding days_from_civil day_count days_of_years days_of_months worth_of decimals_of digits
flat_charge = refl

-- ---- both formats in one world: an amendment in the one names a reading in the other

abbrev both_formats : Schedule
both_formats = record {
  voters = 1;
  observers = 0;
  agents = 1;
  sheet = sheet_with_region_lines;
  issuer = issuer_1_lines;
  events =
      PlansJournal (codes "B1|1|1|1" ∷ reading_1 ∷ []) ∷ PlansJournal (codes "B2|1|2|2" ∷ codes "X|1|0|7200" ∷ (reading_1 ++ codes "|eu-1") ∷ []) ∷
      PlansJournal (codes "B1|1|3|1" ∷ codes "X|2|1|3600" ∷ []) ∷ PlansDelivery 0 0 ∷ PlansDelivery 1 0 ∷ PlansDelivery 2 0 ∷
      PlansStart 0 ∷ PlansDelivery 3 0 ∷ PlansDelivery 4 0 ∷ PlansDelivery 5 0 ∷ PlansDelivery 6 0 ∷ PlansExport 0 0 ∷ [];
}

both_formats_text : schedule_text both_formats ≡
    lines_text (codes "SCHEDULE 1" ∷ codes "nodes 1" ∷ codes "agents 1" ∷ [])
    ++ line (codes "sheet 16") ++ lines_text sheet_with_region_lines ++ line (codes "issuer 7") ++ lines_text issuer_1_lines
    ++ lines_text (codes "journal 2" ∷ codes "B1|1|1|1" ∷ reading_1 ∷ codes "journal 3" ∷ codes "B2|1|2|2" ∷ codes "X|1|0|7200" ∷ (reading_1 ++ codes "|eu-1") ∷
    codes "journal 2" ∷ codes "B1|1|3|1" ∷ codes "X|2|1|3600" ∷
    codes "deliver 0 0" ∷ codes "deliver 1 0" ∷ codes "deliver 2 0" ∷ codes "start 0" ∷ codes "deliver 3 0" ∷ codes "deliver 4 0" ∷
    codes "deliver 5 0" ∷ codes "deliver 6 0" ∷ codes "export 0 0" ∷ [])
unfolding digits
both_formats_text = refl

both_formats_transcript : transcript_of sheet_with_region issuer_1 both_formats ≡
    lines_text (codes "journaled packet 0" ∷ codes "journaled packet 1" ∷ codes "journaled packet 2" ∷ codes "delivered" ∷ codes "delivered" ∷ codes "delivered" ∷
    codes "started ballot 1 packet 3" ∷ codes "delivered sent 4" ∷ codes "delivered sent 5" ∷ codes "delivered sent 6" ∷ codes "delivered learned 0" ∷
    codes "exported period 0 lines 3" ∷ header_line ∷
    (codes "0.16,A-100,Payer,USD,2025-02-01T00:00:00Z,2025-01-01T00:00:00Z,Usage,,Virtual CPU time,Usage-Based,2025-01-10T02:00:00Z,"
    ++ codes "2025-01-10T00:00:00Z,,,,,7200,Seconds,0.16,0.08,0.16,Sample Cloud Ltd,0.2,0.1,Standard,2,Hours,Sample Cloud,Sample Cloud,,,"
    ++ codes "vm-1,Compute,Sample Compute,cpu,cpu-od,acc-7,\"{\"\"env\"\":\"\"prod\"\"}\"") ∷
    (codes "0.08,A-100,Payer,USD,2025-02-01T00:00:00Z,2025-01-01T00:00:00Z,Usage,,Virtual CPU time,Usage-Based,2025-01-10T02:00:00Z,"
    ++ codes "2025-01-10T00:00:00Z,,,,,3600,Seconds,0.08,0.08,0.08,Sample Cloud Ltd,0.1,0.1,Standard,1,Hours,Sample Cloud,Sample Cloud,"
    ++ codes "eu-1,Europe 1,vm-1,Compute,Sample Compute,cpu,cpu-od,acc-7,\"{\"\"env\"\":\"\"prod\"\"}\"") ∷
    [])
unfolding days_from_civil day_count days_of_years days_of_months worth_of decimals_of digits
both_formats_transcript = refl
