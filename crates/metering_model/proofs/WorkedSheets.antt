-- The sample sheet and the sample issuer keep the rules, and each of these changes breaks one.
use Rattle.std.specs.Prelude.{◌≡◌, [], ◌∷◌, true, false, ◌&&◌, IsTrue, codes, pos}
use Rattle.jiff_core.specs.Calendar.{days_from_civil, day_count, days_of_years, days_of_months}
use Rattle.std.proofs.Common.{refl, arith}
use Rattle.std.proofs.lemmas.List.Elements.{All-nil, All-cons}
use Rattle.metering_model.specs.Sheet.{Commitment, Region}
use Rattle.metering_model.specs.SheetRules.{is_label, IsDay, IsPriceRow, IsCommitment, IsRegion, IsSheet, IsIssuer, has_same_key, has_same_region, are_apart, has_price}
use Rattle.metering_model.proofs.Samples.{cpu, ops, cpu_plan, cm_1, europe, sheet_1, issuer_1}

new_year : IsDay (pos 20_089)
unfolding days_from_civil day_count days_of_years days_of_months
new_year = (
  codes "2025-01-01",
  record {
    year = 2025;
    month = 1;
    day = 1;
    year_in = (omega arith, omega arith);
    month_in = (omega arith, omega arith);
    day_in = (omega arith, omega arith);
    joined = refl;
    number = refl;
  },
)

cpu_is_a_row : IsPriceRow cpu
cpu_is_a_row = record {
  sku = refl;
  price_id = refl;
  from = new_year;
  description = refl;
  service = refl;
  consumed_unit = refl;
  pricing_unit = refl;
  per = (omega arith, omega arith);
  list = omega arith;
  contracted = omega arith;
}

ops_is_a_row : IsPriceRow ops
ops_is_a_row = record {
  sku = refl;
  price_id = refl;
  from = new_year;
  description = refl;
  service = refl;
  consumed_unit = refl;
  pricing_unit = refl;
  per = (omega arith, omega arith);
  list = omega arith;
  contracted = omega arith;
}

cpu_plan_is_a_row : IsPriceRow cpu_plan
cpu_plan_is_a_row = record {
  sku = refl;
  price_id = refl;
  from = new_year;
  description = refl;
  service = refl;
  consumed_unit = refl;
  pricing_unit = refl;
  per = (omega arith, omega arith);
  list = omega arith;
  contracted = omega arith;
}

cm_1_is_a_commitment : IsCommitment cm_1
cm_1_is_a_commitment = record { id = refl; sku = refl; buy = refl; kind = refl; rate = omega arith }

pub issuer_1_is_an_issuer : IsIssuer issuer_1
issuer_1_is_an_issuer = record {
  provider = refl;
  publisher = refl;
  issuer = refl;
  account_id = refl;
  account_name = refl;
  currency = refl;
  other_service = refl;
}

abbrev AreBothPriced : Commitment → Type 0
AreBothPriced c = IsTrue (has_price sheet_1 c.sku && has_price sheet_1 c.buy)

pub sheet_1_is_a_sheet : IsSheet sheet_1
sheet_1_is_a_sheet = record {
  base = (omega arith, omega arith);
  prices = All-cons IsPriceRow cpu (ops ∷ cpu_plan ∷ []) cpu_is_a_row (All-cons IsPriceRow ops (cpu_plan ∷ []) ops_is_a_row (All-cons IsPriceRow cpu_plan [] cpu_plan_is_a_row (All-nil IsPriceRow)));
  price_count = omega arith;
  one_price = refl;
  commitments = All-cons IsCommitment cm_1 [] cm_1_is_a_commitment (All-nil IsCommitment);
  commitment_count = omega arith;
  one_id = refl;
  priced = All-cons AreBothPriced cm_1 [] refl (All-nil AreBothPriced);
  regions = All-nil IsRegion;
  region_count = omega arith;
  one_region = refl;
}

-- a line feed, a text of no character, and two letters for a currency
no_line_feed : is_label (97 ∷ 10 ∷ []) ≡ false
no_line_feed = refl

no_delete : is_label (97 ∷ 127 ∷ []) ≡ false
no_delete = refl

not_empty : is_label [] ≡ false
not_empty = refl

an_umlaut : is_label (90 ∷ 111 ∷ 195 ∷ 171 ∷ []) ≡ true
an_umlaut = refl

one_sku_from_one_day : has_same_key cpu (record cpu { price_id = codes "cpu-later" }) ≡ true
one_sku_from_one_day = refl

one_sku_from_two_days : has_same_key cpu (record cpu { from = pos 20_103 }) ≡ false
one_sku_from_two_days = refl

no_price : has_price sheet_1 (codes "gpu") ≡ false
no_price = refl

-- ---- regions

europe_is_a_region : IsRegion europe
europe_is_a_region = record { id = refl; name = refl }

-- the sheet with it is one too
sheet_1_with_a_region : IsSheet (record sheet_1 { regions = europe ∷ [] })
sheet_1_with_a_region = record {
  base = sheet_1_is_a_sheet.base;
  prices = sheet_1_is_a_sheet.prices;
  price_count = sheet_1_is_a_sheet.price_count;
  one_price = sheet_1_is_a_sheet.one_price;
  commitments = sheet_1_is_a_sheet.commitments;
  commitment_count = sheet_1_is_a_sheet.commitment_count;
  one_id = sheet_1_is_a_sheet.one_id;
  priced = sheet_1_is_a_sheet.priced;
  regions = All-cons IsRegion europe [] europe_is_a_region (All-nil IsRegion);
  region_count = omega arith;
  one_region = refl;
}

-- two regions of one name are two, and two names of one id are refused
abbrev twice_europe : Region
twice_europe = record europe { name = codes "Europe" }

two_names_of_one_region : are_apart has_same_region (europe ∷ twice_europe ∷ []) ≡ false
two_names_of_one_region = refl

two_regions_of_one_name : are_apart has_same_region (europe ∷ record europe { id = codes "eu-2" } ∷ []) ≡ true
two_regions_of_one_name = refl

a_region_without_a_name : IsRegion (record europe { name = [] }) → ⊥
a_region_without_a_name is = let no : false ≡ true = is.name in absurd (cc)
