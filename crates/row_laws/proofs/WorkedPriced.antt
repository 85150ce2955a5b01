-- What the columns of each row say of each other in worked journals, with a commitment that is bought in a region.
use Rattle.std.specs.Prelude.{◌≡◌, ℕ, ◌+◌, Bool, true, false, ◌||◌, List, [], ◌∷◌, map, All, Option, Some, None, Ok, ℤ, pos, neg_ℤ, ◌*ℤ◌, option_map, codes}
use Rattle.std.specs.Option.{is_some}
use Rattle.std.specs.Fmt.{digits}
use Rattle.jiff_core.specs.Calendar.{days_from_civil, day_count, days_of_years, days_of_months}
use Rattle.std.proofs.Common.{refl}
use Rattle.metering_model.specs.NumberText.{worth_of, decimals_of}
use Rattle.metering_model.specs.declared.Kind.TheVariants.{Purchase}
use Rattle.metering_model.specs.declared.Version.TheVariants.{B2}
use Rattle.metering_model.specs.Batch.{Reading, Reads, Batch, IsWellFormed}
use Rattle.metering_model.specs.BatchReading.{batch_in}
use Rattle.metering_model.specs.Sheet.{Sheet}
use Rattle.metering_model.specs.PriceInForce.{commitment_with}
use Rattle.metering_model.specs.Holding.{Holding}
use Rattle.metering_model.specs.JournalRules.{MeetsJournalRules}
use Rattle.metering_model.specs.Row.{Row}
use Rattle.metering_model.specs.Rows.{rows}
use Rattle.metering_model.specs.Schedule.{TextLines, lines_text}
use Rattle.metering_model.proofs.BatchLaws.{IsWellFormed-read}
use Rattle.metering_model.proofs.Journals.{MeetsJournalRules-nil, MeetsJournalRules-put}
use Rattle.metering_model.proofs.Samples.{europe, sheet_1, issuer_1}
use Rattle.row_laws.specs.Priced.{IsPriceTimesQuantity, is_usage, is_purchase, PriceColumnsAre}
use Rattle.row_laws.proofs.WorkedJournals.{january, february, journals, january_is_well_formed, february_is_well_formed}
use Rattle.row_laws.proofs.PricedRows.{list_costs, prices_are_there}

abbrev pub sheet_in_europe : Sheet
sheet_in_europe = record sheet_1 { regions = europe ∷ [] }

abbrev pub bought : Reading
bought = record {
  kind = Purchase;
  start = pos 1_740_787_200;
  end = pos 1_743_465_600;
  start_text = codes "2025-03-01T00:00:00Z";
  end_text = codes "2025-04-01T00:00:00Z";
  account = codes "acc-7";
  resource = [];
  key = codes "cpu-plan";
  value = pos 2_000_000;
  commitment = codes "cm-1";
  tags = [];
  region = Some (codes "eu-1");
}

abbrev march : Batch
march = record { version = B2; agent = 1; seq = 3; records = Reads bought ∷ [] }

abbrev pub journals_to_march : Holding
journals_to_march = january ∷ february ∷ march ∷ []

-- the rows of each period: usage, under a commitment too; two Corrections and a credit; and a purchase of the commitment
abbrev pub rows_of_period : ℕ → List Row
rows_of_period period = rows sheet_in_europe issuer_1 journals_to_march period (period ∷ []) ((period + 1) ∷ [])

-- ---- they meet the journal rules

abbrev march_lines : TextLines
march_lines = codes "B2|1|3|1" ∷ codes "P|2025-03-01T00:00:00Z|2025-04-01T00:00:00Z|acc-7||cpu-plan|2|cm-1||eu-1" ∷ []

march_is_read : batch_in (lines_text march_lines) ≡ Ok march
unfolding days_from_civil day_count days_of_years days_of_months worth_of decimals_of digits
march_is_read = refl

march_is_well_formed : IsWellFormed march
march_is_well_formed = IsWellFormed-read (lines_text march_lines) march march_is_read

pub journals_meet_their_rules : MeetsJournalRules sheet_in_europe journals_to_march
unfolding days_from_civil day_count days_of_years days_of_months
journals_meet_their_rules =
    MeetsJournalRules-put sheet_in_europe journals march
    (MeetsJournalRules-put sheet_in_europe (january ∷ []) february
    (MeetsJournalRules-put sheet_in_europe [] january (MeetsJournalRules-nil sheet_in_europe) january_is_well_formed refl refl)
    february_is_well_formed refl refl)
    march_is_well_formed refl refl

-- ---- a unit price times the quantity

abbrev by_list : Row → Option ℕ × Option ℤ × ℤ
by_list x = (x.list_unit_price, x.pricing_quantity, x.list_cost)

abbrev by_contract : Row → Option ℕ × Option ℤ × ℤ
by_contract x = (x.contracted_unit_price, x.pricing_quantity, x.contracted_cost)

-- 0.1 times 1.5 hours, twice, and half a pair of requests, which is rounded to 0
listed_in_january : map by_list (rows_of_period 0) ≡
    (Some 100_000, Some (pos 1_500_000), pos 150_000_000_000) ∷
    (Some 100_000, Some (pos 1_500_000), pos 150_000_000_000) ∷
    (Some 1_000_000, Some (pos 0), pos 0) ∷ []
listed_in_january = refl

-- Corrections of half an hour and of two millionths of a pair; a credit has its amount, and no quantity
listed_in_february : map by_list (rows_of_period 1) ≡
    (Some 100_000, Some (pos 500_000), pos 50_000_000_000) ∷
    (Some 1_000_000, Some (pos 2), pos 2_000_000) ∷
    (None, None, neg_ℤ (pos 2_500_000_000_000)) ∷ []
listed_in_february = refl

contracted_in_february : map by_contract (rows_of_period 1) ≡
    (Some 80_000, Some (pos 500_000), pos 40_000_000_000) ∷
    (Some 1_000_000, Some (pos 2), pos 2_000_000) ∷
    (None, None, neg_ℤ (pos 2_500_000_000_000)) ∷ []
contracted_in_february = refl

-- two plans at 50 by the list, and at 40 by contract
bought_by_list : map by_list (rows_of_period 2) ≡ (Some 50_000_000, Some (pos 2_000_000), pos 100_000_000_000_000) ∷ []
bought_by_list = refl

bought_by_contract : map by_contract (rows_of_period 2) ≡ (Some 40_000_000, Some (pos 2_000_000), pos 80_000_000_000_000) ∷ []
bought_by_contract = refl

corrections_are_products : All (λ x. IsPriceTimesQuantity x.list_unit_price x.pricing_quantity x.list_cost) (rows_of_period 1)
corrections_are_products = list_costs sheet_in_europe issuer_1 journals_to_march 1 (1 ∷ []) (2 ∷ [])

-- ---- columns that are there

abbrev of_price : Row → List Bool
of_price x =
    is_some x.pricing_quantity ∷ is_some x.pricing_unit ∷ is_some x.list_unit_price ∷ is_some x.contracted_unit_price ∷ is_some x.sku_id ∷
    is_some x.sku_price_id ∷ []

abbrev six_of : Bool → List Bool
six_of there = there ∷ there ∷ there ∷ there ∷ there ∷ there ∷ []

priced_in_january : map of_price (rows_of_period 0) ≡ six_of true ∷ six_of true ∷ six_of true ∷ []
priced_in_january = refl

-- the credit has none of them
priced_in_february : map of_price (rows_of_period 1) ≡ six_of true ∷ six_of true ∷ six_of false ∷ []
priced_in_february = refl

priced_in_march : map of_price (rows_of_period 2) ≡ six_of true ∷ []
priced_in_march = refl

credits_alone_lack_a_price : All (λ x. PriceColumnsAre (is_usage x || is_purchase x) x) (rows_of_period 1)
credits_alone_lack_a_price = prices_are_there sheet_in_europe issuer_1 journals_to_march 1 (1 ∷ []) (2 ∷ []) journals_meet_their_rules

-- PricingCategory, and of what was metered quantity and unit
abbrev metered : Row → Option (List ℕ) × Option ℤ × Option (List ℕ)
metered x = (x.pricing_category, x.consumed_quantity, x.consumed_unit)

metered_in_january : map metered (rows_of_period 0) ≡
    (Some (codes "Standard"), Some (pos 5_400_000_000), Some (codes "Seconds")) ∷
    (Some (codes "Committed"), Some (pos 5_400_000_000), Some (codes "Seconds")) ∷
    (Some (codes "Standard"), Some (pos 1), Some (codes "Requests")) ∷ []
metered_in_january = refl

metered_in_march : map metered (rows_of_period 2) ≡ (Some (codes "Standard"), None, None) ∷ []
metered_in_march = refl

-- a commitment's id, category, type and status, and a region's id and name
abbrev named : Row → Option (List ℕ) × Option (List ℕ) × Option (List ℕ) × Option (List ℕ) × Option (List ℕ) × Option (List ℕ)
named x = (
  x.commitment_discount_id,
  x.commitment_discount_category,
  x.commitment_discount_type,
  x.commitment_discount_status,
  x.region_id,
  x.region_name,
)

named_in_january : map named (rows_of_period 0) ≡
    (None, None, None, None, None, None) ∷
    (Some (codes "cm-1"), Some (codes "Usage"), Some (codes "Reserved"), Some (codes "Used"), None, None) ∷
    (None, None, None, None, None, None) ∷ []
named_in_january = refl

-- a purchase has no status, and this one a region
named_in_march : map named (rows_of_period 2) ≡ (Some (codes "cm-1"), Some (codes "Usage"), Some (codes "Reserved"), None, Some (codes "eu-1"), Some (codes "Europe 1")) ∷ []
named_in_march = refl

-- ---- what is billed, and what it costs

abbrev charged : Row → ℤ × ℤ × ℤ
charged x = (x.contracted_cost, x.billed_cost, x.effective_cost)

-- under the commitment nothing is billed, and 1.5 hours cost 0.05 each
charged_in_january : map charged (rows_of_period 0) ≡
    (pos 120_000_000_000, pos 120_000_000_000, pos 120_000_000_000) ∷ (pos 120_000_000_000, pos 0, pos 75_000_000_000) ∷ (pos 0, pos 0, pos 0) ∷ []
charged_in_january = refl

charged_in_march : map charged (rows_of_period 2) ≡ (pos 80_000_000_000_000, pos 80_000_000_000_000, pos 0) ∷ []
charged_in_march = refl

at_its_rate : option_map (λ c. pos c.rate *ℤ pos 1_500_000) (commitment_with sheet_in_europe (codes "cm-1")) ≡ Some (pos 75_000_000_000)
at_its_rate = refl
