-- Faults of a price row: values of another type, form or range, and which of two faults is told.
use Rattle.std.proofs.Common.{◌≡◌, ℕ, List, [], ◌∷◌, ◌++◌, Option, Some, None, Result, Ok, Err, ℤ, pos, refl, codes, map, replicate, take}
use Rattle.metering_model.specs.Sheet.{PriceRow}
use Rattle.metering_model.specs.declared.ServiceCategory.{ServiceCategory}
use Rattle.metering_model.specs.declared.ServiceCategory.TheVariants.{Compute, Storage, Networking, Databases, Other}
use Rattle.sheet_text.specs.declared.keys.KeyFault.TheVariants.{Missing, BadValue}
use Rattle.sheet_text.specs.declared.names.Key.TheVariants as keys
use Rattle.sheet_text.specs.Names.{Key, key_name}
use Rattle.sheet_text.specs.Keys.{KeyFault, value_under, text_under, label_under, day_under, price_under, per_under, service_category_under}
use Rattle.sheet_text.specs.RowReading.{price_row_in}
use Rattle.sheet_text.proofs.WorkedRows.{price_lines, price_of, without}
use Rattle.sheet_text.proofs.WorkedSteps.{days_from_civil, day_count, days_of_years, days_of_months, scan_numeral, skip_ws, skip_from, hex_escape}
use Rattle.sheet_text.proofs.WorkedSteps.{escape_char, escape, special, body, one_line, quoted, simple_key, key_after, underscore_fits}
use Rattle.sheet_text.proofs.WorkedSteps.{decimal_number, plain_number, number, word_value, word_len, unquoted, along_header, along_dots, at_key}
use Rattle.sheet_text.proofs.WorkedSteps.{define, key_equals, val, atom, expression, line, lines, skip_bom, parse_document}
use Rattle.metering_model.specs.NumberText.{worth_of}

-- the row of the lines in which this one stands in place of the one that so many stand before
abbrev price_with : ℕ → List ℕ → Option (Result PriceRow KeyFault)
price_with n line = price_of (line ∷ without n price_lines)

-- what a bad value is told as
abbrev tells_bad : {A : Type 0} → Key → Option (Result A KeyFault)
tells_bad key = Some (Err (BadValue key))

-- one column of what was read
abbrev column : {A : Type 0} → (PriceRow → A) → Option (Result PriceRow KeyFault) → Option (Result A KeyFault)
column view None = None
column view (Some (Ok row)) = Some (Ok (view row))
column view (Some (Err fault)) = Some (Err fault)

-- ---- each key with a value of another type, and with an empty text

each_value_of_another_type :
    price_with 0 (codes "sku = 7") ∷ price_with 1 (codes "price_id = 7") ∷ price_with 2 (codes "from = 7") ∷ price_with 3
    (codes "description = 7") ∷ price_with 4 (codes "service = 7") ∷ price_with 5 (codes "category = 7") ∷ price_with 6
    (codes "consumed_unit = 7") ∷ price_with 7 (codes "pricing_unit = 7") ∷ price_with 8 (codes "per = \"3600\"") ∷ price_with 9
    (codes "list = 7") ∷ price_with 10 (codes "contracted = 7") ∷ []
    ≡ map tells_bad (keys.Sku ∷ keys.PriceId ∷ keys.From ∷ keys.Description ∷ keys.Service ∷ keys.Category ∷ keys.ConsumedUnit ∷ keys.PricingUnit ∷ keys.Per ∷ keys.List ∷ keys.Contracted ∷ [])
unfolding parse_document lines line expression skip_bom skip_from skip_ws key_equals key_after simple_key val atom quoted one_line body special define
    along_header along_dots at_key unquoted word_len word_value number underscore_fits plain_number decimal_number scan_numeral key_name value_under
    text_under label_under day_under price_under per_under service_category_under price_row_in days_from_civil day_count days_of_years days_of_months
    worth_of
each_value_of_another_type = refl

each_empty_text :
    price_with 0 (codes "sku = \"\"") ∷ price_with 1 (codes "price_id = \"\"") ∷ price_with 2 (codes "from = \"\"") ∷ price_with 3
    (codes "description = \"\"") ∷ price_with 4 (codes "service = \"\"") ∷ price_with 5 (codes "category = \"\"") ∷ price_with 6
    (codes "consumed_unit = \"\"") ∷ price_with 7 (codes "pricing_unit = \"\"") ∷ price_with 9 (codes "list = \"\"") ∷ price_with 10
    (codes "contracted = \"\"") ∷ []
    ≡ map tells_bad (keys.Sku ∷ keys.PriceId ∷ keys.From ∷ keys.Description ∷ keys.Service ∷ keys.Category ∷ keys.ConsumedUnit ∷ keys.PricingUnit ∷ keys.List ∷ keys.Contracted ∷ [])
unfolding parse_document lines line expression skip_bom skip_from skip_ws key_equals key_after simple_key val atom quoted one_line body special define
    along_header along_dots at_key unquoted word_len word_value number underscore_fits plain_number decimal_number scan_numeral key_name value_under
    text_under label_under day_under price_under per_under service_category_under price_row_in days_from_civil day_count days_of_years days_of_months
    worth_of
each_empty_text = refl

-- U+007F, written as TOML does
a_control_character : price_with 3 (codes "description = \"a\\u007F\"") ≡ tells_bad keys.Description
unfolding parse_document lines line expression skip_bom skip_from skip_ws key_equals key_after simple_key val atom quoted one_line body special define
    along_header along_dots at_key unquoted word_len word_value number underscore_fits plain_number decimal_number scan_numeral key_name value_under
    text_under label_under day_under price_under per_under service_category_under price_row_in days_from_civil day_count days_of_years days_of_months
    worth_of escape escape_char hex_escape lib.Utf8.encode
a_control_character = refl

-- ---- forms and ranges

abbrev from_with : List ℕ → Option (Result ℤ KeyFault)
from_with text = column (λ p. p.from) (price_with 2 (codes "from = \"" ++ text ++ codes "\""))

a_leap_day : from_with (codes "2024-02-29") ≡ Some (Ok (pos 19_782))
unfolding parse_document lines line expression skip_bom skip_from skip_ws key_equals key_after simple_key val atom quoted one_line body special define
    along_header along_dots at_key unquoted word_len word_value number underscore_fits plain_number decimal_number scan_numeral key_name value_under
    text_under label_under day_under price_under per_under service_category_under price_row_in days_from_civil day_count days_of_years days_of_months
    worth_of
a_leap_day = refl

no_days : map from_with (codes "2025-02-29" ∷ codes "2025-3-15" ∷ codes "2025-03-15T00:00:00Z" ∷ codes "0000-01-01" ∷ [])
    ≡ replicate 4 (tells_bad keys.From)
unfolding parse_document lines line expression skip_bom skip_from skip_ws key_equals key_after simple_key val atom quoted one_line body special define
    along_header along_dots at_key unquoted word_len word_value number underscore_fits plain_number decimal_number scan_numeral key_name value_under
    text_under label_under day_under price_under per_under service_category_under price_row_in days_from_civil day_count days_of_years days_of_months
    worth_of
no_days = refl

abbrev category_with : List ℕ → Option (Result ServiceCategory KeyFault)
category_with text = column (λ p. p.category) (price_with 5 (codes "category = \"" ++ text ++ codes "\""))

each_category : map category_with (codes "Compute" ∷ codes "Storage" ∷ codes "Networking" ∷ codes "Databases" ∷ codes "Other" ∷ [])
    ≡ map (λ c. Some (Ok c)) (Compute ∷ Storage ∷ Networking ∷ Databases ∷ Other ∷ [])
unfolding parse_document lines line expression skip_bom skip_from skip_ws key_equals key_after simple_key val atom quoted one_line body special define
    along_header along_dots at_key unquoted word_len word_value number underscore_fits plain_number decimal_number scan_numeral key_name value_under
    text_under label_under day_under price_under per_under service_category_under price_row_in days_from_civil day_count days_of_years days_of_months
    worth_of
each_category = refl

no_categories : map category_with (codes "compute" ∷ codes "Spend" ∷ []) ≡ replicate 2 (tells_bad keys.Category)
unfolding parse_document lines line expression skip_bom skip_from skip_ws key_equals key_after simple_key val atom quoted one_line body special define
    along_header along_dots at_key unquoted word_len word_value number underscore_fits plain_number decimal_number scan_numeral key_name value_under
    text_under label_under day_under price_under per_under service_category_under price_row_in days_from_civil day_count days_of_years days_of_months
    worth_of
no_categories = refl

abbrev per_with : List ℕ → Option (Result ℕ KeyFault)
per_with text = column (λ p. p.per) (price_with 8 (codes "per = " ++ text))

least_and_most_units : map per_with (codes "1" ∷ codes "1000000000" ∷ codes "+3_600" ∷ []) ≡ map (λ n. Some (Ok n)) (1 ∷ 1_000_000_000 ∷ 3_600 ∷ [])
unfolding parse_document lines line expression skip_bom skip_from skip_ws key_equals key_after simple_key val atom quoted one_line body special define
    along_header along_dots at_key unquoted word_len word_value number underscore_fits plain_number decimal_number scan_numeral key_name value_under
    text_under label_under day_under price_under per_under service_category_under price_row_in days_from_civil day_count days_of_years days_of_months
    worth_of
least_and_most_units = refl

no_numbers_of_units : map per_with (codes "0" ∷ codes "-1" ∷ codes "1000000001" ∷ []) ≡ replicate 3 (tells_bad keys.Per)
unfolding parse_document lines line expression skip_bom skip_from skip_ws key_equals key_after simple_key val atom quoted one_line body special define
    along_header along_dots at_key unquoted word_len word_value number underscore_fits plain_number decimal_number scan_numeral key_name value_under
    text_under label_under day_under price_under per_under service_category_under price_row_in days_from_civil day_count days_of_years days_of_months
    worth_of
no_numbers_of_units = refl

abbrev list_with : List ℕ → Option (Result ℕ KeyFault)
list_with text = column (λ p. p.list) (price_with 9 (codes "list = \"" ++ text ++ codes "\""))

least_and_most_price : map list_with (codes "0" ∷ codes "0.000001" ∷ codes "999999.999999" ∷ []) ≡ map (λ n. Some (Ok n)) (0 ∷ 1 ∷ 999_999_999_999 ∷ [])
unfolding parse_document lines line expression skip_bom skip_from skip_ws key_equals key_after simple_key val atom quoted one_line body special define
    along_header along_dots at_key unquoted word_len word_value number underscore_fits plain_number decimal_number scan_numeral key_name value_under
    text_under label_under day_under price_under per_under service_category_under price_row_in days_from_civil day_count days_of_years days_of_months
    worth_of
least_and_most_price = refl

no_prices : map list_with (codes "0.10" ∷ codes ".5" ∷ codes "01" ∷ codes "-1" ∷ codes "1000000" ∷ codes "0.0000001" ∷ [])
    ≡ replicate 6 (tells_bad keys.List)
unfolding parse_document lines line expression skip_bom skip_from skip_ws key_equals key_after simple_key val atom quoted one_line body special define
    along_header along_dots at_key unquoted word_len word_value number underscore_fits plain_number decimal_number scan_numeral key_name value_under
    text_under label_under day_under price_under per_under service_category_under price_row_in days_from_civil day_count days_of_years days_of_months
    worth_of
no_prices = refl

-- ---- the first of two faults: keys are looked at in an order of their own, wherever they stand in the text

the_list_price_before_the_contracted_one : price_of (codes "contracted = \"-1\"" ∷ codes "list = \"-1\"" ∷ take 9 price_lines) ≡ tells_bad keys.List
unfolding parse_document lines line expression skip_bom skip_from skip_ws key_equals key_after simple_key val atom quoted one_line body special define
    along_header along_dots at_key unquoted word_len word_value number underscore_fits plain_number decimal_number scan_numeral key_name value_under
    text_under label_under day_under price_under per_under service_category_under price_row_in days_from_civil day_count days_of_years days_of_months
    worth_of
the_list_price_before_the_contracted_one = refl

a_bad_sku_before_an_absent_price : price_of (take 9 (without 0 price_lines) ++ codes "sku = \"\"" ∷ []) ≡ tells_bad keys.Sku
unfolding parse_document lines line expression skip_bom skip_from skip_ws key_equals key_after simple_key val atom quoted one_line body special define
    along_header along_dots at_key unquoted word_len word_value number underscore_fits plain_number decimal_number scan_numeral key_name value_under
    text_under label_under day_under price_under per_under service_category_under price_row_in days_from_civil day_count days_of_years days_of_months
    worth_of
a_bad_sku_before_an_absent_price = refl

an_absent_sku_before_a_bad_price : price_of (without 0 (take 10 price_lines) ++ codes "contracted = \"\"" ∷ []) ≡ Some (Err (Missing keys.Sku))
unfolding parse_document lines line expression skip_bom skip_from skip_ws key_equals key_after simple_key val atom quoted one_line body special define
    along_header along_dots at_key unquoted word_len word_value number underscore_fits plain_number decimal_number scan_numeral key_name value_under
    text_under label_under day_under price_under per_under service_category_under price_row_in days_from_civil day_count days_of_years days_of_months
    worth_of
an_absent_sku_before_a_bad_price = refl
