-- Whole sheets, read from lines of TOML, and the price that is in force on a day.
use Rattle.std.proofs.Common.{◌≡◌, ℕ, List, [], ◌∷◌, ◌++◌, Option, Some, None, Result, Ok, Err, ℤ, pos, refl, codes, take, drop, option_map}
use Rattle.metering_model.specs.Sheet.{PriceRow, Sheet}
use Rattle.metering_model.specs.PriceInForce.{price_in_force}
use Rattle.metering_model.specs.Schedule.{lines_text}
use Rattle.metering_model.proofs.Samples.{sheet_0_lines, sheet_1_lines, sheet_with_region_lines, cpu, sheet_0, sheet_1, sheet_with_region}
use Rattle.sheet_text.specs.declared.faults.SheetFault.{SheetFault}
use Rattle.sheet_text.specs.Names.{key_name}
use Rattle.sheet_text.specs.Keys.{value_under, text_under, label_under, base_under, day_under, price_under, per_under, service_category_under, commitment_category_under, rows_in, rows_under}
use Rattle.sheet_text.specs.RowReading.{price_row_in, commitment_in, region_in}
use Rattle.sheet_text.proofs.WorkedSteps.{parse_document, lines, line, expression, skip_bom, skip_from, skip_ws, header_key, key_equals, key_after}
use Rattle.sheet_text.proofs.WorkedSteps.{simple_key, val, atom, quoted, one_line, body, special, define, along_header, along_dots, at_key, unquoted}
use Rattle.sheet_text.proofs.WorkedSteps.{word_len, word_value, number, underscore_fits, plain_number, decimal_number, scan_numeral, days_from_civil}
use Rattle.sheet_text.proofs.WorkedSteps.{day_count, days_of_years, days_of_months}
use Rattle.metering_model.specs.NumberText.{worth_of}
use Rattle.price_sheet.specs.SheetReading.{next_price, next_commitment, next_region, sheet_of_rows, sheet_in, sheet_of_text}

abbrev pub sheet_of : List (List ℕ) → Result Sheet SheetFault
sheet_of ls = sheet_of_text (lines_text ls)

one_price : sheet_of sheet_0_lines ≡ Ok sheet_0
unfolding price_row_in commitment_in region_in next_price next_commitment next_region sheet_of_rows sheet_in sheet_of_text key_name value_under
    text_under label_under base_under day_under price_under per_under service_category_under commitment_category_under rows_in rows_under
    parse_document lines line expression skip_bom skip_from skip_ws header_key key_equals key_after simple_key val atom quoted one_line body special
    define along_header along_dots at_key unquoted word_len word_value number underscore_fits plain_number decimal_number scan_numeral days_from_civil
    day_count days_of_years days_of_months worth_of
one_price = refl

three_prices_and_a_commitment : sheet_of sheet_1_lines ≡ Ok sheet_1
unfolding price_row_in commitment_in region_in next_price next_commitment next_region sheet_of_rows sheet_in sheet_of_text key_name value_under
    text_under label_under base_under day_under price_under per_under service_category_under commitment_category_under rows_in rows_under
    parse_document lines line expression skip_bom skip_from skip_ws header_key key_equals key_after simple_key val atom quoted one_line body special
    define along_header along_dots at_key unquoted word_len word_value number underscore_fits plain_number decimal_number scan_numeral days_from_civil
    day_count days_of_years days_of_months worth_of
three_prices_and_a_commitment = refl

a_price_and_a_region : sheet_of sheet_with_region_lines ≡ Ok sheet_with_region
unfolding price_row_in commitment_in region_in next_price next_commitment next_region sheet_of_rows sheet_in sheet_of_text key_name value_under
    text_under label_under base_under day_under price_under per_under service_category_under commitment_category_under rows_in rows_under
    parse_document lines line expression skip_bom skip_from skip_ws header_key key_equals key_after simple_key val atom quoted one_line body special
    define along_header along_dots at_key unquoted word_len word_value number underscore_fits plain_number decimal_number scan_numeral days_from_civil
    day_count days_of_years days_of_months worth_of
a_price_and_a_region = refl

no_rows : sheet_of (codes "base = \"2025-01\"" ∷ []) ≡ Ok (record { base = 24_300; prices = []; commitments = []; regions = [] })
unfolding price_row_in commitment_in region_in next_price next_commitment next_region sheet_of_rows sheet_in sheet_of_text key_name value_under
    text_under label_under base_under day_under price_under per_under service_category_under commitment_category_under rows_in rows_under
    parse_document lines line expression skip_bom skip_from skip_ws header_key key_equals key_after simple_key val atom quoted one_line body special
    define along_header along_dots at_key unquoted word_len word_value number underscore_fits plain_number decimal_number scan_numeral days_from_civil
    day_count days_of_years days_of_months worth_of
no_rows = refl

-- ---- two prices of one SKU, from the first and from the fifteenth of January 2025; the later one stands first

abbrev later_lines : List (List ℕ)
later_lines =
    codes "[[price]]" ∷
    codes "sku = \"cpu\"" ∷
    codes "price_id = \"cpu-later\"" ∷
    codes "from = \"2025-01-15\"" ∷
    codes "description = \"Virtual CPU time\"" ∷
    codes "service = \"Sample Compute\"" ∷
    codes "category = \"Compute\"" ∷
    codes "consumed_unit = \"Seconds\"" ∷
    codes "pricing_unit = \"Hours\"" ∷
    codes "per = 3600" ∷
    codes "list = \"0.2\"" ∷
    codes "contracted = \"0.15\"" ∷
    []

abbrev later_cpu : PriceRow
later_cpu = record cpu { price_id = codes "cpu-later"; from = pos 20_103; list = 200_000; contracted = 150_000 }

abbrev two_prices : Sheet
two_prices = record sheet_0 { prices = later_cpu ∷ cpu ∷ [] }

two_prices_of_one_sku : sheet_of (take 1 sheet_0_lines ++ (later_lines ++ drop 1 sheet_0_lines)) ≡ Ok two_prices
unfolding price_row_in commitment_in region_in next_price next_commitment next_region sheet_of_rows sheet_in sheet_of_text key_name value_under
    text_under label_under base_under day_under price_under per_under service_category_under commitment_category_under rows_in rows_under
    parse_document lines line expression skip_bom skip_from skip_ws header_key key_equals key_after simple_key val atom quoted one_line body special
    define along_header along_dots at_key unquoted word_len word_value number underscore_fits plain_number decimal_number scan_numeral days_from_civil
    day_count days_of_years days_of_months worth_of
two_prices_of_one_sku = refl

-- what an hour costs by list on a day, by the sheet that the lines are
abbrev list_price_on : ℤ → Result Sheet SheetFault → Option ℕ
list_price_on day (Ok sheet) = option_map (λ r. r.list) (price_in_force sheet (codes "cpu") day)
list_price_on day (Err fault) = None

the_day_before_both : list_price_on (pos 20_088) (Ok two_prices) ≡ None
the_day_before_both = refl

the_last_day_of_the_first : list_price_on (pos 20_102) (Ok two_prices) ≡ Some 100_000
the_last_day_of_the_first = refl

the_first_day_of_the_second : list_price_on (pos 20_103) (Ok two_prices) ≡ Some 200_000
the_first_day_of_the_second = refl

-- which stands first decides nothing
abbrev earlier_first : Sheet
earlier_first = record sheet_0 { prices = cpu ∷ later_cpu ∷ [] }

the_day_before_both_earlier_first : list_price_on (pos 20_088) (Ok earlier_first) ≡ None
the_day_before_both_earlier_first = refl

the_last_day_of_the_first_earlier_first : list_price_on (pos 20_102) (Ok earlier_first) ≡ Some 100_000
the_last_day_of_the_first_earlier_first = refl

the_first_day_of_the_second_earlier_first : list_price_on (pos 20_103) (Ok earlier_first) ≡ Some 200_000
the_first_day_of_the_second_earlier_first = refl
