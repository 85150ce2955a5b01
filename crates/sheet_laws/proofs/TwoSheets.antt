-- A sheet of January 2025, and a longer one from February on, which the worked examples speak of.
use Rattle.std.proofs.Common.{◌≡◌, true, [], ◌∷◌, length, refl, arith, Some, ℤ, pos, codes}
use Rattle.std.specs.Prelude.{◌&&◌, All, IsTrue}
use Rattle.std.specs.Option.{is_some}
use Rattle.std.proofs.lemmas.List.Elements.{All-nil, All-cons}
use Rattle.jiff_core.specs.Calendar.{days_from_civil, day_count, days_of_years, days_of_months}
use Rattle.metering_model.specs.Sheet.{PriceRow, Commitment, Region, Sheet}
use Rattle.metering_model.specs.declared.ServiceCategory.TheVariants.{Other}
use Rattle.metering_model.specs.SheetRules.{IsDay, IsPriceRow, IsCommitment, IsRegion, IsSheet, has_price}
use Rattle.metering_model.specs.PriceInForce.{price_in_force, commitment_with, region_named}
use Rattle.metering_model.proofs.Samples.{january_2025, cpu, ops, cpu_plan, cm_1, europe, sheet_1}
use Rattle.metering_model.proofs.WorkedSheets.{sheet_1_is_a_sheet}
use Rattle.sheet_laws.specs.Longer.{GoesOnFrom, IsLonger, rows_before}
use Rattle.sheet_laws.proofs.LongerSheets.{goes_on_by}

-- the first days of February and of May
abbrev pub february_1 : ℤ
february_1 = pos 20_120

abbrev pub may_1 : ℤ
may_1 = pos 20_209

abbrev pub old_sheet : Sheet
old_sheet = record sheet_1 { regions = europe ∷ [] }

-- from February on, CPU time is priced by the minute
abbrev pub cpu_minutes : PriceRow
cpu_minutes = record {
  sku = codes "cpu";
  price_id = codes "cpu-min";
  from = february_1;
  description = codes "Virtual CPU minutes";
  service = codes "Sample Machines";
  category = Other;
  consumed_unit = codes "CPU Seconds";
  pricing_unit = codes "Minutes";
  per = 60;
  list = 2_000;
  contracted = 1_500;
}

abbrev pub gpu : PriceRow
gpu = record cpu { sku = codes "gpu"; price_id = codes "gpu-od"; from = may_1 }

abbrev pub cm_2 : Commitment
cm_2 = record cm_1 { id = codes "cm-2" }

abbrev pub asia : Region
asia = record { id = codes "as-1"; name = codes "Asia 1" }

-- what it has besides stands between and behind the old rows
abbrev pub new_sheet : Sheet
new_sheet = record {
  base = january_2025;
  prices = cpu ∷ cpu_minutes ∷ ops ∷ cpu_plan ∷ gpu ∷ [];
  commitments = cm_2 ∷ cm_1 ∷ [];
  regions = asia ∷ europe ∷ [];
}

pub it_is_longer : IsLonger february_1 old_sheet new_sheet
it_is_longer = record {
  base = refl;
  before = refl;
  still = All-cons Still cpu (ops ∷ cpu_plan ∷ []) refl (All-cons Still ops (cpu_plan ∷ []) refl (All-cons Still cpu_plan [] refl (All-nil Still)));
  commitments = All-cons Found cm_1 [] refl (All-nil Found);
  regions = All-cons Named europe [] refl (All-nil Named);
}
  where
    Still : PriceRow → Type 0
    Still p = is_some (price_in_force new_sheet p.sku p.from) ≡ true

    Found : Commitment → Type 0
    Found c = commitment_with new_sheet c.id ≡ Some c

    Named : Region → Type 0
    Named x = region_named new_sheet x.id ≡ Some x.name

-- Rows may also begin in months that are over, where the old sheet has no price: of a SKU that it lacks, and of CPU time before its first
-- row. What was refused then may be charged.
abbrev with_early_rows : Sheet
with_early_rows = record old_sheet { prices = record cpu { from = pos 19_000; price_id = codes "cpu-0" } ∷ cpu ∷ ops ∷ cpu_plan ∷ record gpu { from = cpu.from } ∷ [] }

with_early_rows_it_is_longer : IsLonger february_1 old_sheet with_early_rows
with_early_rows_it_is_longer = record {
  base = refl;
  before = refl;
  still = All-cons Still cpu (ops ∷ cpu_plan ∷ []) refl (All-cons Still ops (cpu_plan ∷ []) refl (All-cons Still cpu_plan [] refl (All-nil Still)));
  commitments = All-cons Found cm_1 [] refl (All-nil Found);
  regions = All-cons Named europe [] refl (All-nil Named);
}
  where
    Still : PriceRow → Type 0
    Still p = is_some (price_in_force with_early_rows p.sku p.from) ≡ true

    Found : Commitment → Type 0
    Found c = commitment_with with_early_rows c.id ≡ Some c

    Named : Region → Type 0
    Named x = region_named with_early_rows x.id ≡ Some x.name

-- two rows more from before February
they_are_more : (length (rows_before february_1 old_sheet) ≡ 3) × (length (rows_before february_1 with_early_rows) ≡ 5)
they_are_more = (refl, refl)

-- ---- both are sheets

europe_is_a_region : IsRegion europe
europe_is_a_region = record { id = refl; name = refl }

pub old_sheet_is_a_sheet : IsSheet old_sheet
old_sheet_is_a_sheet = record {
  base = sheet_1_is_a_sheet.base;
  prices = sheet_1_is_a_sheet.prices;
  price_count = sheet_1_is_a_sheet.price_count;
  one_price = sheet_1_is_a_sheet.one_price;
  commitments = sheet_1_is_a_sheet.commitments;
  commitment_count = sheet_1_is_a_sheet.commitment_count;
  one_id = sheet_1_is_a_sheet.one_id;
  priced = sheet_1_is_a_sheet.priced;
  regions = All-cons IsRegion europe [] europe_is_a_region (All-nil IsRegion);
  region_count = omega arith;
  one_region = refl;
}

first_of_february : IsDay february_1
unfolding days_from_civil day_count days_of_years days_of_months
first_of_february = (
  codes "2025-02-01",
  record { year = 2025; month = 2; day = 1; year_in = (omega arith, omega arith); month_in = (omega arith, omega arith); day_in = (omega arith, omega arith); joined = refl; number = refl },
)

first_of_may : IsDay may_1
unfolding days_from_civil day_count days_of_years days_of_months
first_of_may = (
  codes "2025-05-01",
  record { year = 2025; month = 5; day = 1; year_in = (omega arith, omega arith); month_in = (omega arith, omega arith); day_in = (omega arith, omega arith); joined = refl; number = refl },
)

cpu_minutes_is_a_row : IsPriceRow cpu_minutes
cpu_minutes_is_a_row = record {
  sku = refl;
  price_id = refl;
  from = first_of_february;
  description = refl;
  service = refl;
  consumed_unit = refl;
  pricing_unit = refl;
  per = (omega arith, omega arith);
  list = omega arith;
  contracted = omega arith;
}

gpu_is_a_row : IsPriceRow gpu
gpu_is_a_row = record {
  sku = refl;
  price_id = refl;
  from = first_of_may;
  description = refl;
  service = refl;
  consumed_unit = refl;
  pricing_unit = refl;
  per = (omega arith, omega arith);
  list = omega arith;
  contracted = omega arith;
}

a_commitment : (c : Commitment) → IsCommitment c → IsCommitment (record c { id = codes "cm-2" })
a_commitment c is = record { id = refl; sku = is.sku; buy = is.buy; kind = is.kind; rate = is.rate }

pub new_sheet_is_a_sheet : IsSheet new_sheet
new_sheet_is_a_sheet = record {
  base = (omega arith, omega arith);
  prices = All-cons IsPriceRow cpu (cpu_minutes ∷ ops ∷ cpu_plan ∷ gpu ∷ []) (old_rows 0 cpu (omega arith))
      (All-cons IsPriceRow cpu_minutes (ops ∷ cpu_plan ∷ gpu ∷ []) cpu_minutes_is_a_row
      (All-cons IsPriceRow ops (cpu_plan ∷ gpu ∷ []) (old_rows 1 cpu (omega arith))
      (All-cons IsPriceRow cpu_plan (gpu ∷ []) (old_rows 2 cpu (omega arith))
      (All-cons IsPriceRow gpu [] gpu_is_a_row (All-nil IsPriceRow)))));
  price_count = omega arith;
  one_price = refl;
  commitments = All-cons IsCommitment cm_2 (cm_1 ∷ []) (a_commitment cm_1 (sheet_1_is_a_sheet.commitments 0 cm_1 (omega arith)))
      (All-cons IsCommitment cm_1 [] (sheet_1_is_a_sheet.commitments 0 cm_1 (omega arith)) (All-nil IsCommitment));
  commitment_count = omega arith;
  one_id = refl;
  priced = All-cons AreBothPriced cm_2 (cm_1 ∷ []) refl (All-cons AreBothPriced cm_1 [] refl (All-nil AreBothPriced));
  regions = All-cons IsRegion asia (europe ∷ []) (record { id = refl; name = refl }) (All-cons IsRegion europe [] europe_is_a_region (All-nil IsRegion));
  region_count = omega arith;
  one_region = refl;
}
  where
    old_rows : All IsPriceRow (cpu ∷ ops ∷ cpu_plan ∷ [])
    old_rows = sheet_1_is_a_sheet.prices

    AreBothPriced : Commitment → Type 0
    AreBothPriced c = IsTrue (has_price new_sheet c.sku && has_price new_sheet c.buy)

-- ---- the old sheet with a price from May on

abbrev pub with_gpu : Sheet
with_gpu = record old_sheet { prices = cpu ∷ ops ∷ cpu_plan ∷ gpu ∷ [] }

pub with_gpu_is_a_sheet : IsSheet with_gpu
with_gpu_is_a_sheet = record {
  base = (omega arith, omega arith);
  prices = All-cons IsPriceRow cpu (ops ∷ cpu_plan ∷ gpu ∷ []) (old_rows 0 cpu (omega arith))
      (All-cons IsPriceRow ops (cpu_plan ∷ gpu ∷ []) (old_rows 1 cpu (omega arith))
      (All-cons IsPriceRow cpu_plan (gpu ∷ []) (old_rows 2 cpu (omega arith))
      (All-cons IsPriceRow gpu [] gpu_is_a_row (All-nil IsPriceRow))));
  price_count = omega arith;
  one_price = refl;
  commitments = sheet_1_is_a_sheet.commitments;
  commitment_count = sheet_1_is_a_sheet.commitment_count;
  one_id = sheet_1_is_a_sheet.one_id;
  priced = All-cons AreBothPriced cm_1 [] refl (All-nil AreBothPriced);
  regions = old_sheet_is_a_sheet.regions;
  region_count = omega arith;
  one_region = refl;
}
  where
    old_rows : All IsPriceRow (cpu ∷ ops ∷ cpu_plan ∷ [])
    old_rows = sheet_1_is_a_sheet.prices

    AreBothPriced : Commitment → Type 0
    AreBothPriced c = IsTrue (has_price with_gpu c.sku && has_price with_gpu c.buy)

-- without it, all that was in force before February is still there
pub without_gpu_it_goes_on : GoesOnFrom february_1 with_gpu old_sheet
without_gpu_it_goes_on = goes_on_by february_1 with_gpu old_sheet refl refl (All-cons Found cm_1 [] refl (All-nil Found))
  where
    Found : Commitment → Type 0
    Found c = commitment_with old_sheet c.id ≡ Some c
