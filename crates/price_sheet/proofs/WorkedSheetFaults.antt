-- Faults of whole sheets: each with its place, and which of two is told.
use Rattle.std.proofs.Common.{◌≡◌, ℕ, ◌+◌, List, [], ◌∷◌, ◌++◌, Result, Ok, Err, refl, codes, map, replicate, take, drop}
use Rattle.metering_model.specs.Sheet.{Sheet}
use Rattle.metering_model.proofs.Samples.{sheet_0_lines, sheet_with_region_lines}
use Rattle.sheet_text.specs.declared.faults.Place.TheVariants as places
use Rattle.sheet_text.specs.declared.faults.SheetFault.{SheetFault}
use Rattle.sheet_text.specs.declared.faults.SheetFault.TheVariants as faults
use Rattle.sheet_text.specs.declared.names.Key.TheVariants as keys
use Rattle.sheet_text.specs.Names.{key_name}
use Rattle.sheet_text.specs.Keys.{value_under, text_under, label_under, base_under, day_under, price_under, per_under, service_category_under, commitment_category_under, rows_in, rows_under}
use Rattle.sheet_text.specs.RowReading.{price_row_in, commitment_in, region_in}
use Rattle.sheet_text.proofs.WorkedSteps.{parse_document, lines, line, expression, skip_bom, skip_from, skip_ws, header_key, key_equals, key_after}
use Rattle.sheet_text.proofs.WorkedSteps.{simple_key, val, atom, quoted, one_line, body, special, define, along_header, along_dots, at_key, unquoted}
use Rattle.sheet_text.proofs.WorkedSteps.{word_len, word_value, number, underscore_fits, plain_number, decimal_number, scan_numeral, days_from_civil}
use Rattle.sheet_text.proofs.WorkedSteps.{day_count, days_of_years, days_of_months}
use Rattle.metering_model.specs.NumberText.{worth_of}
use Rattle.price_sheet.specs.SheetReading.{next_price, next_commitment, next_region, sheet_of_rows, sheet_in, sheet_of_text}
use Rattle.price_sheet.proofs.WorkedSheets.{sheet_of}

-- ---- the top

no_base : sheet_of (drop 1 sheet_0_lines) ≡ Err (faults.Missing places.Top keys.Base)
unfolding price_row_in commitment_in region_in next_price next_commitment next_region sheet_of_rows sheet_in sheet_of_text key_name value_under
    text_under label_under base_under day_under price_under per_under service_category_under commitment_category_under rows_in rows_under
    parse_document lines line expression skip_bom skip_from skip_ws header_key key_equals key_after simple_key val atom quoted one_line body special
    define along_header along_dots at_key unquoted word_len word_value number underscore_fits plain_number decimal_number scan_numeral days_from_civil
    day_count days_of_years days_of_months worth_of
no_base = refl

abbrev base_of : Result Sheet SheetFault → Result ℕ SheetFault
base_of (Ok sheet) = Ok sheet.base
base_of (Err fault) = Err fault

abbrev base_with : List ℕ → Result ℕ SheetFault
base_with text = base_of (sheet_of ((codes "base = " ++ text) ∷ []))

first_and_last_base : map base_with (codes "\"2000-01\"" ∷ codes "\"2100-12\"" ∷ []) ≡ Ok 24_000 ∷ Ok 25_211 ∷ []
unfolding price_row_in commitment_in region_in next_price next_commitment next_region sheet_of_rows sheet_in sheet_of_text key_name value_under
    text_under label_under base_under day_under price_under per_under service_category_under commitment_category_under rows_in rows_under
    parse_document lines line expression skip_bom skip_from skip_ws header_key key_equals key_after simple_key val atom quoted one_line body special
    define along_header along_dots at_key unquoted word_len word_value number underscore_fits plain_number decimal_number scan_numeral days_from_civil
    day_count days_of_years days_of_months worth_of
first_and_last_base = refl

no_bases : map base_with (codes "\"1999-12\"" ∷ codes "\"2101-01\"" ∷ codes "\"2025-13\"" ∷ codes "\"2025-1\"" ∷ codes "2025" ∷ [])
    ≡ replicate 5 (Err (faults.BadValue places.Top keys.Base))
unfolding price_row_in commitment_in region_in next_price next_commitment next_region sheet_of_rows sheet_in sheet_of_text key_name value_under
    text_under label_under base_under day_under price_under per_under service_category_under commitment_category_under rows_in rows_under
    parse_document lines line expression skip_bom skip_from skip_ws header_key key_equals key_after simple_key val atom quoted one_line body special
    define along_header along_dots at_key unquoted word_len word_value number underscore_fits plain_number decimal_number scan_numeral days_from_civil
    day_count days_of_years days_of_months worth_of
no_bases = refl

no_arrays : map (λ line. sheet_of (codes "base = \"2025-01\"" ∷ line ∷ [])) (codes "price = 1" ∷ codes "commitment = 1" ∷ codes "region = 1" ∷ codes "[price]" ∷ [])
    ≡ map (λ key. Err (faults.BadValue places.Top key)) (keys.Price ∷ keys.Commitment ∷ keys.Region ∷ keys.Price ∷ [])
unfolding price_row_in commitment_in region_in next_price next_commitment next_region sheet_of_rows sheet_in sheet_of_text key_name value_under
    text_under label_under base_under day_under price_under per_under service_category_under commitment_category_under rows_in rows_under
    parse_document lines line expression skip_bom skip_from skip_ws header_key key_equals key_after simple_key val atom quoted one_line body special
    define along_header along_dots at_key unquoted word_len word_value number underscore_fits plain_number decimal_number scan_numeral days_from_civil
    day_count days_of_years days_of_months worth_of
no_arrays = refl

-- a price without any key is told behind what stands at the top
the_top_before_rows : sheet_of (codes "base = \"2025-01\"" ∷ codes "region = 1" ∷ codes "[[price]]" ∷ []) ≡ Err (faults.BadValue places.Top keys.Region)
unfolding price_row_in commitment_in region_in next_price next_commitment next_region sheet_of_rows sheet_in sheet_of_text key_name value_under
    text_under label_under base_under day_under price_under per_under service_category_under commitment_category_under rows_in rows_under
    parse_document lines line expression skip_bom skip_from skip_ws header_key key_equals key_after simple_key val atom quoted one_line body special
    define along_header along_dots at_key unquoted word_len word_value number underscore_fits plain_number decimal_number scan_numeral days_from_civil
    day_count days_of_years days_of_months worth_of
the_top_before_rows = refl

no_toml : sheet_of (codes "base = \"2025-01\"" ∷ codes "[[price]" ∷ []) ≡ Err faults.NotToml
unfolding price_row_in commitment_in region_in next_price next_commitment next_region sheet_of_rows sheet_in sheet_of_text key_name value_under
    text_under label_under base_under day_under price_under per_under service_category_under commitment_category_under rows_in rows_under
    parse_document lines line expression skip_bom skip_from skip_ws header_key key_equals key_after simple_key val atom quoted one_line body special
    define along_header along_dots at_key unquoted word_len word_value number underscore_fits plain_number decimal_number scan_numeral days_from_civil
    day_count days_of_years days_of_months worth_of
no_toml = refl

-- ---- rows, each told by its table and its number there

-- the lines of the sample's one price, as they are and with another one in place of the one that so many stand before
abbrev price_lines : List (List ℕ)
price_lines = drop 1 sheet_0_lines

abbrev changed : ℕ → List ℕ → List (List ℕ) → List (List ℕ)
changed n line ls = take n ls ++ line ∷ drop (n + 1) ls

the_second_price : sheet_of (sheet_0_lines ++ changed 9 (codes "per = 0") price_lines) ≡ Err (faults.BadValue (places.Price 2) keys.Per)
unfolding price_row_in commitment_in region_in next_price next_commitment next_region sheet_of_rows sheet_in sheet_of_text key_name value_under
    text_under label_under base_under day_under price_under per_under service_category_under commitment_category_under rows_in rows_under
    parse_document lines line expression skip_bom skip_from skip_ws header_key key_equals key_after simple_key val atom quoted one_line body special
    define along_header along_dots at_key unquoted word_len word_value number underscore_fits plain_number decimal_number scan_numeral days_from_civil
    day_count days_of_years days_of_months worth_of
the_second_price = refl

a_price_twice : sheet_of (sheet_0_lines ++ changed 2 (codes "price_id = \"cpu-later\"") price_lines) ≡ Err (faults.Duplicate (places.Price 2))
unfolding price_row_in commitment_in region_in next_price next_commitment next_region sheet_of_rows sheet_in sheet_of_text key_name value_under
    text_under label_under base_under day_under price_under per_under service_category_under commitment_category_under rows_in rows_under
    parse_document lines line expression skip_bom skip_from skip_ws header_key key_equals key_after simple_key val atom quoted one_line body special
    define along_header along_dots at_key unquoted word_len word_value number underscore_fits plain_number decimal_number scan_numeral days_from_civil
    day_count days_of_years days_of_months worth_of
a_price_twice = refl

-- a row's own keys come before the rows above it
a_price_twice_with_a_bad_key : sheet_of (sheet_0_lines ++ changed 11 (codes "contracted = \"-1\"") price_lines) ≡ Err (faults.BadValue (places.Price 2) keys.Contracted)
unfolding price_row_in commitment_in region_in next_price next_commitment next_region sheet_of_rows sheet_in sheet_of_text key_name value_under
    text_under label_under base_under day_under price_under per_under service_category_under commitment_category_under rows_in rows_under
    parse_document lines line expression skip_bom skip_from skip_ws header_key key_equals key_after simple_key val atom quoted one_line body special
    define along_header along_dots at_key unquoted word_len word_value number underscore_fits plain_number decimal_number scan_numeral days_from_civil
    day_count days_of_years days_of_months worth_of
a_price_twice_with_a_bad_key = refl

abbrev commitment_lines : (id sku buy : List ℕ) → List (List ℕ)
commitment_lines id sku buy =
    codes "[[commitment]]" ∷
    (codes "id = \"" ++ id ++ codes "\"") ∷
    (codes "sku = \"" ++ sku ++ codes "\"") ∷
    (codes "buy = \"" ++ buy ++ codes "\"") ∷
    codes "category = \"Usage\"" ∷
    codes "type = \"Reserved\"" ∷
    codes "rate = \"0.05\"" ∷
    []

-- behind one price, of the SKU cpu
abbrev with_commitments : List (List ℕ) → Result Sheet SheetFault
with_commitments ls = sheet_of (sheet_0_lines ++ ls)

no_price_of_what_is_used : with_commitments (commitment_lines (codes "cm-1") (codes "gpu") (codes "cpu")) ≡ Err (faults.UnknownSku (places.Commitment 1) keys.Sku)
unfolding price_row_in commitment_in region_in next_price next_commitment next_region sheet_of_rows sheet_in sheet_of_text key_name value_under
    text_under label_under base_under day_under price_under per_under service_category_under commitment_category_under rows_in rows_under
    parse_document lines line expression skip_bom skip_from skip_ws header_key key_equals key_after simple_key val atom quoted one_line body special
    define along_header along_dots at_key unquoted word_len word_value number underscore_fits plain_number decimal_number scan_numeral days_from_civil
    day_count days_of_years days_of_months worth_of
no_price_of_what_is_used = refl

no_price_of_what_is_bought : with_commitments (commitment_lines (codes "cm-1") (codes "cpu") (codes "gpu")) ≡ Err (faults.UnknownSku (places.Commitment 1) keys.Buy)
unfolding price_row_in commitment_in region_in next_price next_commitment next_region sheet_of_rows sheet_in sheet_of_text key_name value_under
    text_under label_under base_under day_under price_under per_under service_category_under commitment_category_under rows_in rows_under
    parse_document lines line expression skip_bom skip_from skip_ws header_key key_equals key_after simple_key val atom quoted one_line body special
    define along_header along_dots at_key unquoted word_len word_value number underscore_fits plain_number decimal_number scan_numeral days_from_civil
    day_count days_of_years days_of_months worth_of
no_price_of_what_is_bought = refl

neither_has_a_price : with_commitments (commitment_lines (codes "cm-1") (codes "gpu") (codes "gpu")) ≡ Err (faults.UnknownSku (places.Commitment 1) keys.Sku)
unfolding price_row_in commitment_in region_in next_price next_commitment next_region sheet_of_rows sheet_in sheet_of_text key_name value_under
    text_under label_under base_under day_under price_under per_under service_category_under commitment_category_under rows_in rows_under
    parse_document lines line expression skip_bom skip_from skip_ws header_key key_equals key_after simple_key val atom quoted one_line body special
    define along_header along_dots at_key unquoted word_len word_value number underscore_fits plain_number decimal_number scan_numeral days_from_civil
    day_count days_of_years days_of_months worth_of
neither_has_a_price = refl

-- told before its SKUs are looked for
a_commitment_twice : with_commitments (commitment_lines (codes "cm-1") (codes "cpu") (codes "cpu") ++ commitment_lines (codes "cm-1") (codes "gpu") (codes "gpu"))
    ≡ Err (faults.Duplicate (places.Commitment 2))
unfolding price_row_in commitment_in region_in next_price next_commitment next_region sheet_of_rows sheet_in sheet_of_text key_name value_under
    text_under label_under base_under day_under price_under per_under service_category_under commitment_category_under rows_in rows_under
    parse_document lines line expression skip_bom skip_from skip_ws header_key key_equals key_after simple_key val atom quoted one_line body special
    define along_header along_dots at_key unquoted word_len word_value number underscore_fits plain_number decimal_number scan_numeral days_from_civil
    day_count days_of_years days_of_months worth_of
a_commitment_twice = refl

the_second_commitment : with_commitments (commitment_lines (codes "cm-1") (codes "cpu") (codes "cpu") ++ commitment_lines (codes "cm-2") (codes "cpu") (codes "gpu"))
    ≡ Err (faults.UnknownSku (places.Commitment 2) keys.Buy)
unfolding price_row_in commitment_in region_in next_price next_commitment next_region sheet_of_rows sheet_in sheet_of_text key_name value_under
    text_under label_under base_under day_under price_under per_under service_category_under commitment_category_under rows_in rows_under
    parse_document lines line expression skip_bom skip_from skip_ws header_key key_equals key_after simple_key val atom quoted one_line body special
    define along_header along_dots at_key unquoted word_len word_value number underscore_fits plain_number decimal_number scan_numeral days_from_civil
    day_count days_of_years days_of_months worth_of
the_second_commitment = refl

a_region_twice : sheet_of (sheet_with_region_lines ++ codes "[[region]]" ∷ codes "id = \"eu-1\"" ∷ codes "name = \"Europe 2\"" ∷ []) ≡ Err (faults.Duplicate (places.Region 2))
unfolding price_row_in commitment_in region_in next_price next_commitment next_region sheet_of_rows sheet_in sheet_of_text key_name value_under
    text_under label_under base_under day_under price_under per_under service_category_under commitment_category_under rows_in rows_under
    parse_document lines line expression skip_bom skip_from skip_ws header_key key_equals key_after simple_key val atom quoted one_line body special
    define along_header along_dots at_key unquoted word_len word_value number underscore_fits plain_number decimal_number scan_numeral days_from_civil
    day_count days_of_years days_of_months worth_of
a_region_twice = refl

a_region_without_a_name : sheet_of (sheet_0_lines ++ codes "[[region]]" ∷ codes "id = \"eu-1\"" ∷ []) ≡ Err (faults.Missing (places.Region 1) keys.Name)
unfolding price_row_in commitment_in region_in next_price next_commitment next_region sheet_of_rows sheet_in sheet_of_text key_name value_under
    text_under label_under base_under day_under price_under per_under service_category_under commitment_category_under rows_in rows_under
    parse_document lines line expression skip_bom skip_from skip_ws header_key key_equals key_after simple_key val atom quoted one_line body special
    define along_header along_dots at_key unquoted word_len word_value number underscore_fits plain_number decimal_number scan_numeral days_from_civil
    day_count days_of_years days_of_months worth_of
a_region_without_a_name = refl

-- ---- prices, then commitments, then regions, wherever they stand in the text

prices_before_regions : sheet_of (codes "base = \"2025-01\"" ∷ codes "[[region]]" ∷ codes "[[commitment]]" ∷ codes "[[price]]" ∷ []) ≡ Err (faults.Missing (places.Price 1) keys.Sku)
unfolding price_row_in commitment_in region_in next_price next_commitment next_region sheet_of_rows sheet_in sheet_of_text key_name value_under
    text_under label_under base_under day_under price_under per_under service_category_under commitment_category_under rows_in rows_under
    parse_document lines line expression skip_bom skip_from skip_ws header_key key_equals key_after simple_key val atom quoted one_line body special
    define along_header along_dots at_key unquoted word_len word_value number underscore_fits plain_number decimal_number scan_numeral days_from_civil
    day_count days_of_years days_of_months worth_of
prices_before_regions = refl

commitments_before_regions : sheet_of (codes "base = \"2025-01\"" ∷ codes "[[region]]" ∷ codes "[[commitment]]" ∷ []) ≡ Err (faults.Missing (places.Commitment 1) keys.Id)
unfolding price_row_in commitment_in region_in next_price next_commitment next_region sheet_of_rows sheet_in sheet_of_text key_name value_under
    text_under label_under base_under day_under price_under per_under service_category_under commitment_category_under rows_in rows_under
    parse_document lines line expression skip_bom skip_from skip_ws header_key key_equals key_after simple_key val atom quoted one_line body special
    define along_header along_dots at_key unquoted word_len word_value number underscore_fits plain_number decimal_number scan_numeral days_from_civil
    day_count days_of_years days_of_months worth_of
commitments_before_regions = refl
