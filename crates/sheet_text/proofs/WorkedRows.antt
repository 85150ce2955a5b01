-- Rows of a price sheet, read from lines of TOML. All values of a row are different, so that no key can be taken for another.
use Rattle.std.proofs.Common.{◌≡◌, ℕ, ◌+◌, List, [], ◌∷◌, ◌++◌, Option, Some, Result, Ok, Err, pos, refl, codes, map, take, drop, option_map}
use Rattle.metering_model.specs.Sheet.{PriceRow, Commitment, Region}
use Rattle.metering_model.specs.declared.ServiceCategory.TheVariants.{Networking}
use Rattle.metering_model.specs.declared.CommitmentCategory.TheVariants.{Spend}
use Rattle.metering_model.specs.Schedule.{lines_text}
use Rattle.sheet_text.specs.declared.keys.KeyFault.TheVariants.{Missing, BadValue}
use Rattle.sheet_text.specs.declared.names.Key.TheVariants as keys
use Rattle.sheet_text.specs.Names.{Key, key_name}
use Rattle.sheet_text.specs.Keys.{KeyFault, value_under, text_under, label_under, day_under, price_under, per_under, service_category_under, commitment_category_under}
use Rattle.sheet_text.specs.RowReading.{price_row_in, commitment_in, region_in}
use Rattle.sheet_text.proofs.WorkedSteps.{days_from_civil, day_count, days_of_years, days_of_months, scan_numeral, skip_ws, skip_from, special, body}
use Rattle.sheet_text.proofs.WorkedSteps.{one_line, quoted, simple_key, key_after, underscore_fits, decimal_number, plain_number, number, word_value}
use Rattle.sheet_text.proofs.WorkedSteps.{word_len, unquoted, along_header, along_dots, at_key, define, key_equals, val, atom, expression, line}
use Rattle.sheet_text.proofs.WorkedSteps.{lines, skip_bom, parse_document}
use Rattle.metering_model.specs.NumberText.{worth_of}

-- ---- a price

abbrev pub price_lines : List (List ℕ)
price_lines =
    codes "sku = \"net-out\"" ∷
    codes "price_id = \"net-out-3\"" ∷
    codes "from = \"2025-03-15\"" ∷
    codes "description = \"Data sent\"" ∷
    codes "service = \"Sample Network\"" ∷
    codes "category = \"Networking\"" ∷
    codes "consumed_unit = \"Bytes\"" ∷
    codes "pricing_unit = \"Gigabytes\"" ∷
    codes "per = 1000000000" ∷
    codes "list = \"0.09\"" ∷
    codes "contracted = \"0.0725\"" ∷
    []

-- the row that lines are, where they are TOML
abbrev pub price_of : List (List ℕ) → Option (Result PriceRow KeyFault)
price_of ls = option_map price_row_in (parse_document (lines_text ls))

abbrev pub net_out : PriceRow
net_out = record {
  sku = codes "net-out";
  price_id = codes "net-out-3";
  from = pos 20_162;
  description = codes "Data sent";
  service = codes "Sample Network";
  category = Networking;
  consumed_unit = codes "Bytes";
  pricing_unit = codes "Gigabytes";
  per = 1_000_000_000;
  list = 90_000;
  contracted = 72_500;
}

each_value_of_a_price_stands_under_its_key : price_of price_lines ≡ Some (Ok net_out)
unfolding parse_document lines line expression skip_bom skip_from skip_ws key_equals key_after simple_key val atom quoted one_line body special define
    along_header along_dots at_key unquoted word_len word_value number underscore_fits plain_number decimal_number scan_numeral key_name value_under
    text_under label_under day_under price_under per_under service_category_under price_row_in days_from_civil day_count days_of_years days_of_months
    worth_of
each_value_of_a_price_stands_under_its_key = refl

-- the lines without the one that so many stand before
abbrev pub without : ℕ → List (List ℕ) → List (List ℕ)
without n ls = take n ls ++ drop (n + 1) ls

-- what an absent key is told as
abbrev pub tells_missing : {A : Type 0} → Key → Option (Result A KeyFault)
tells_missing key = Some (Err (Missing key))

each_key_of_a_price_is_missed_by_its_name : map (λ n. price_of (without n price_lines)) (0 ∷ 1 ∷ 2 ∷ 3 ∷ 4 ∷ 5 ∷ 6 ∷ 7 ∷ 8 ∷ 9 ∷ 10 ∷ [])
    ≡ map tells_missing (keys.Sku ∷ keys.PriceId ∷ keys.From ∷ keys.Description ∷ keys.Service ∷ keys.Category ∷ keys.ConsumedUnit ∷ keys.PricingUnit ∷ keys.Per ∷ keys.List ∷ keys.Contracted ∷ [])
unfolding parse_document lines line expression skip_bom skip_from skip_ws key_equals key_after simple_key val atom quoted one_line body special define
    along_header along_dots at_key unquoted word_len word_value number underscore_fits plain_number decimal_number scan_numeral key_name value_under
    text_under label_under day_under price_under per_under service_category_under price_row_in days_from_civil day_count days_of_years days_of_months
    worth_of
each_key_of_a_price_is_missed_by_its_name = refl

-- in TOML keys of a table may stand in any order
the_last_key_first : price_of (codes "contracted = \"0.0725\"" ∷ without 10 price_lines) ≡ Some (Ok net_out)
unfolding parse_document lines line expression skip_bom skip_from skip_ws key_equals key_after simple_key val atom quoted one_line body special define
    along_header along_dots at_key unquoted word_len word_value number underscore_fits plain_number decimal_number scan_numeral key_name value_under
    text_under label_under day_under price_under per_under service_category_under price_row_in days_from_civil day_count days_of_years days_of_months
    worth_of
the_last_key_first = refl

an_unknown_key_is_passed_over : price_of (codes "colour = \"red\"" ∷ price_lines) ≡ Some (Ok net_out)
unfolding parse_document lines line expression skip_bom skip_from skip_ws key_equals key_after simple_key val atom quoted one_line body special define
    along_header along_dots at_key unquoted word_len word_value number underscore_fits plain_number decimal_number scan_numeral key_name value_under
    text_under label_under day_under price_under per_under service_category_under price_row_in days_from_civil day_count days_of_years days_of_months
    worth_of
an_unknown_key_is_passed_over = refl

-- ---- a commitment

abbrev commitment_lines : List (List ℕ)
commitment_lines =
    codes "id = \"cm-9\"" ∷
    codes "sku = \"net-out\"" ∷
    codes "buy = \"net-plan\"" ∷
    codes "category = \"Spend\"" ∷
    codes "type = \"Reserved\"" ∷
    codes "rate = \"0.055\"" ∷
    []

abbrev commitment_of : List (List ℕ) → Option (Result Commitment KeyFault)
commitment_of ls = option_map commitment_in (parse_document (lines_text ls))

each_value_of_a_commitment_stands_under_its_key : commitment_of commitment_lines ≡ Some (Ok (record {
  id = codes "cm-9";
  sku = codes "net-out";
  buy = codes "net-plan";
  category = Spend;
  kind = codes "Reserved";
  rate = 55_000;
}))
unfolding parse_document lines line expression skip_bom skip_from skip_ws key_equals key_after simple_key val atom quoted one_line body special define along_header along_dots at_key key_name value_under text_under label_under price_under commitment_category_under commitment_in worth_of
each_value_of_a_commitment_stands_under_its_key = refl

each_key_of_a_commitment_is_missed_by_its_name : map (λ n. commitment_of (without n commitment_lines)) (0 ∷ 1 ∷ 2 ∷ 3 ∷ 4 ∷ 5 ∷ [])
    ≡ map tells_missing (keys.Id ∷ keys.Sku ∷ keys.Buy ∷ keys.Category ∷ keys.Kind ∷ keys.Rate ∷ [])
unfolding parse_document lines line expression skip_bom skip_from skip_ws key_equals key_after simple_key val atom quoted one_line body special define along_header along_dots at_key key_name value_under text_under label_under price_under commitment_category_under commitment_in worth_of
each_key_of_a_commitment_is_missed_by_its_name = refl

-- a category of prices is none of commitments
no_category_of_a_commitment : commitment_of (codes "category = \"Compute\"" ∷ without 3 commitment_lines) ≡ Some (Err (BadValue keys.Category))
unfolding parse_document lines line expression skip_bom skip_from skip_ws key_equals key_after simple_key val atom quoted one_line body special define along_header along_dots at_key key_name value_under text_under label_under price_under commitment_category_under commitment_in worth_of
no_category_of_a_commitment = refl

-- ---- a region

abbrev region_lines : List (List ℕ)
region_lines = codes "id = \"sa-1\"" ∷ (codes "name = \"S" ++ 195 ∷ 163 ∷ codes "o Paulo\"") ∷ []

abbrev region_of : List (List ℕ) → Option (Result Region KeyFault)
region_of ls = option_map region_in (parse_document (lines_text ls))

each_value_of_a_region_stands_under_its_key : region_of region_lines ≡ Some (Ok (record { id = codes "sa-1"; name = codes "S" ++ 195 ∷ 163 ∷ codes "o Paulo" }))
unfolding parse_document lines line expression skip_bom skip_from skip_ws key_equals key_after simple_key val atom quoted one_line body special define along_header along_dots at_key key_name value_under text_under label_under region_in
each_value_of_a_region_stands_under_its_key = refl

each_key_of_a_region_is_missed_by_its_name : map (λ n. region_of (without n region_lines)) (0 ∷ 1 ∷ []) ≡ map tells_missing (keys.Id ∷ keys.Name ∷ [])
unfolding parse_document lines line expression skip_bom skip_from skip_ws key_equals key_after simple_key val atom quoted one_line body special define along_header along_dots at_key key_name value_under text_under label_under region_in
each_key_of_a_region_is_missed_by_its_name = refl
