-- What a rating is given: with and without a sheet and an issuer of its own, and where a section is refused.
use Rattle.std.proofs.Common.{◌≡◌, ℕ, List, [], ◌∷◌, ◌++◌, Result, Ok, Err, map, replicate, take, refl, codes}
use Rattle.std.specs.Str.{is_utf8, chars}
use Rattle.metering_model.specs.Sheet.{Issuer}
use Rattle.metering_model.specs.Schedule.{lines_text}
use Rattle.metering_model.proofs.Samples.{sheet_0_lines, sheet_0, reading_1}
use Rattle.sheet_text.specs.Samples.{sample_issuer}
use Rattle.sheet_text.specs.Names.{key_name}
use Rattle.sheet_text.specs.Keys.{value_under, text_under, label_under, base_under, day_under, price_under, per_under, service_category_under, commitment_category_under, rows_in, rows_under}
use Rattle.sheet_text.specs.RowReading.{price_row_in, commitment_in, region_in}
use Rattle.sheet_text.specs.IssuerReading.{currency_under, issuer_in, issuer_of_text}
use Rattle.price_sheet.specs.SheetReading.{next_price, next_commitment, next_region, sheet_of_rows, sheet_in, sheet_of_text}
use Rattle.sheet_text.proofs.WorkedSteps.{scan_numeral, days_from_civil, day_count, days_of_years, days_of_months, skip_ws, skip_from, special, body}
use Rattle.sheet_text.proofs.WorkedSteps.{one_line, quoted, simple_key, key_after, underscore_fits, decimal_number, plain_number, number, word_value}
use Rattle.sheet_text.proofs.WorkedSteps.{word_len, unquoted, along_header, along_dots, at_key, define, key_equals, val, atom, header_key}
use Rattle.sheet_text.proofs.WorkedSteps.{expression, line, lines, skip_bom, parse_document}
use Rattle.metering_model.specs.NumberText.{worth_of}
use Rattle.input_sections.specs.declared.faults.ScheduleCode.TheVariants.{Sheet, Issuer as IssuerCode, Lines}
use Rattle.input_sections.specs.declared.faults.ScheduleFault.{ScheduleFault}
use Rattle.input_sections.specs.declared.faults.ScheduleFault.TheVariants.{Refused}
use Rattle.input_sections.specs.Sections.{section_in, read_as, sheet_section, issuer_section}
use Rattle.input_sections.specs.RateInput.{RateInput, rate_input_in, default_sheet}

abbrev given : List (List ℕ) → Result RateInput ScheduleFault
given ls = rate_input_in (lines_text ls)

abbrev batch_lines : List (List ℕ)
batch_lines = codes "B1|1|1|1" ∷ reading_1 ∷ []

-- a sheet and an issuer that are not the ones that stand in their place
abbrev with_sheet : List (List ℕ) → List (List ℕ)
with_sheet ls = codes "sheet 13" ∷ sheet_0_lines ++ ls

abbrev issuer_lines : List (List ℕ)
issuer_lines =
    codes "provider = \"Other Cloud\"" ∷
    codes "publisher = \"Other Books\"" ∷
    codes "issuer = \"Other Invoices Ltd\"" ∷
    codes "account_id = \"A-200\"" ∷
    codes "account_name = \"Buyer\"" ∷
    codes "currency = \"EUR\"" ∷
    codes "other_service = \"Fees\"" ∷
    []

abbrev other_issuer : Issuer
other_issuer = record {
  provider = codes "Other Cloud";
  publisher = codes "Other Books";
  issuer = codes "Other Invoices Ltd";
  account_id = codes "A-200";
  account_name = codes "Buyer";
  currency = codes "EUR";
  other_service = codes "Fees";
}

abbrev with_issuer : List (List ℕ) → List (List ℕ)
with_issuer ls = codes "issuer 7" ∷ issuer_lines ++ ls

a_batch_alone : given batch_lines ≡ Ok (record { sheet = default_sheet; issuer = sample_issuer; batch = lines_text batch_lines })
unfolding rate_input_in section_in read_as sheet_section issuer_section is_utf8 chars lib.Utf8.encode price_row_in commitment_in region_in next_price
    next_commitment next_region sheet_of_rows sheet_in sheet_of_text currency_under issuer_in issuer_of_text key_name value_under text_under
    label_under base_under day_under price_under per_under service_category_under commitment_category_under rows_in rows_under parse_document lines
    line expression skip_bom skip_from skip_ws header_key key_equals key_after simple_key val atom quoted one_line body special define along_header
    along_dots at_key unquoted word_len word_value number underscore_fits plain_number decimal_number scan_numeral days_from_civil day_count
    days_of_years days_of_months worth_of
a_batch_alone = refl

behind_a_sheet : given (with_sheet batch_lines) ≡ Ok (record { sheet = sheet_0; issuer = sample_issuer; batch = lines_text batch_lines })
unfolding rate_input_in section_in read_as sheet_section issuer_section is_utf8 chars lib.Utf8.encode price_row_in commitment_in region_in next_price
    next_commitment next_region sheet_of_rows sheet_in sheet_of_text currency_under issuer_in issuer_of_text key_name value_under text_under
    label_under base_under day_under price_under per_under service_category_under commitment_category_under rows_in rows_under parse_document lines
    line expression skip_bom skip_from skip_ws header_key key_equals key_after simple_key val atom quoted one_line body special define along_header
    along_dots at_key unquoted word_len word_value number underscore_fits plain_number decimal_number scan_numeral days_from_civil day_count
    days_of_years days_of_months worth_of
behind_a_sheet = refl

behind_an_issuer : given (with_issuer batch_lines) ≡ Ok (record { sheet = default_sheet; issuer = other_issuer; batch = lines_text batch_lines })
unfolding rate_input_in section_in read_as sheet_section issuer_section is_utf8 chars lib.Utf8.encode price_row_in commitment_in region_in next_price
    next_commitment next_region sheet_of_rows sheet_in sheet_of_text currency_under issuer_in issuer_of_text key_name value_under text_under
    label_under base_under day_under price_under per_under service_category_under commitment_category_under rows_in rows_under parse_document lines
    line expression skip_bom skip_from skip_ws header_key key_equals key_after simple_key val atom quoted one_line body special define along_header
    along_dots at_key unquoted word_len word_value number underscore_fits plain_number decimal_number scan_numeral days_from_civil day_count
    days_of_years days_of_months worth_of
behind_an_issuer = refl

behind_a_sheet_and_an_issuer : given (with_sheet (with_issuer batch_lines)) ≡ Ok (record { sheet = sheet_0; issuer = other_issuer; batch = lines_text batch_lines })
unfolding rate_input_in section_in read_as sheet_section issuer_section is_utf8 chars lib.Utf8.encode price_row_in commitment_in region_in next_price
    next_commitment next_region sheet_of_rows sheet_in sheet_of_text currency_under issuer_in issuer_of_text key_name value_under text_under
    label_under base_under day_under price_under per_under service_category_under commitment_category_under rows_in rows_under parse_document lines
    line expression skip_bom skip_from skip_ws header_key key_equals key_after simple_key val atom quoted one_line body special define along_header
    along_dots at_key unquoted word_len word_value number underscore_fits plain_number decimal_number scan_numeral days_from_civil day_count
    days_of_years days_of_months worth_of
behind_a_sheet_and_an_issuer = refl

-- is no section: it is what has to be a batch
a_sheet_behind_the_issuer : given (with_issuer (with_sheet batch_lines)) ≡ Ok (record { sheet = default_sheet; issuer = other_issuer; batch = lines_text (with_sheet batch_lines) })
unfolding rate_input_in section_in read_as sheet_section issuer_section is_utf8 chars lib.Utf8.encode price_row_in commitment_in region_in next_price
    next_commitment next_region sheet_of_rows sheet_in sheet_of_text currency_under issuer_in issuer_of_text key_name value_under text_under
    label_under base_under day_under price_under per_under service_category_under commitment_category_under rows_in rows_under parse_document lines
    line expression skip_bom skip_from skip_ws header_key key_equals key_after simple_key val atom quoted one_line body special define along_header
    along_dots at_key unquoted word_len word_value number underscore_fits plain_number decimal_number scan_numeral days_from_civil day_count
    days_of_years days_of_months worth_of
a_sheet_behind_the_issuer = refl

nothing : given [] ≡ Ok (record { sheet = default_sheet; issuer = sample_issuer; batch = [] })
unfolding rate_input_in section_in read_as sheet_section issuer_section is_utf8 chars lib.Utf8.encode price_row_in commitment_in region_in next_price
    next_commitment next_region sheet_of_rows sheet_in sheet_of_text currency_under issuer_in issuer_of_text key_name value_under text_under
    label_under base_under day_under price_under per_under service_category_under commitment_category_under rows_in rows_under parse_document lines
    line expression skip_bom skip_from skip_ws header_key key_equals key_after simple_key val atom quoted one_line body special define along_header
    along_dots at_key unquoted word_len word_value number underscore_fits plain_number decimal_number scan_numeral days_from_civil day_count
    days_of_years days_of_months worth_of
nothing = refl

-- ---- faults, at the line that opens the section

a_sheet_that_breaks_off : given (codes "sheet 99" ∷ sheet_0_lines ++ batch_lines) ≡ Err (Refused Lines 1)
unfolding rate_input_in section_in read_as sheet_section issuer_section is_utf8 chars lib.Utf8.encode price_row_in commitment_in region_in next_price
    next_commitment next_region sheet_of_rows sheet_in sheet_of_text currency_under issuer_in issuer_of_text key_name value_under text_under
    label_under base_under day_under price_under per_under service_category_under commitment_category_under rows_in rows_under parse_document lines
    line expression skip_bom skip_from skip_ws header_key key_equals key_after simple_key val atom quoted one_line body special define along_header
    along_dots at_key unquoted word_len word_value number underscore_fits plain_number decimal_number scan_numeral days_from_civil day_count
    days_of_years days_of_months worth_of
a_sheet_that_breaks_off = refl

an_issuer_that_breaks_off : given (with_sheet (codes "issuer 7" ∷ take 6 issuer_lines)) ≡ Err (Refused Lines 15)
unfolding rate_input_in section_in read_as sheet_section issuer_section is_utf8 chars lib.Utf8.encode price_row_in commitment_in region_in next_price
    next_commitment next_region sheet_of_rows sheet_in sheet_of_text currency_under issuer_in issuer_of_text key_name value_under text_under
    label_under base_under day_under price_under per_under service_category_under commitment_category_under rows_in rows_under parse_document lines
    line expression skip_bom skip_from skip_ws header_key key_equals key_after simple_key val atom quoted one_line body special define along_header
    along_dots at_key unquoted word_len word_value number underscore_fits plain_number decimal_number scan_numeral days_from_civil day_count
    days_of_years days_of_months worth_of
an_issuer_that_breaks_off = refl

an_issuer_without_its_last_line_feed : rate_input_in (lines_text (with_sheet (codes "issuer 7" ∷ take 6 issuer_lines)) ++ codes "other_service = \"Fees\"") ≡ Err (Refused Lines 15)
unfolding rate_input_in section_in read_as sheet_section issuer_section is_utf8 chars lib.Utf8.encode price_row_in commitment_in region_in next_price
    next_commitment next_region sheet_of_rows sheet_in sheet_of_text currency_under issuer_in issuer_of_text key_name value_under text_under
    label_under base_under day_under price_under per_under service_category_under commitment_category_under rows_in rows_under parse_document lines
    line expression skip_bom skip_from skip_ws header_key key_equals key_after simple_key val atom quoted one_line body special define along_header
    along_dots at_key unquoted word_len word_value number underscore_fits plain_number decimal_number scan_numeral days_from_civil day_count
    days_of_years days_of_months worth_of
an_issuer_without_its_last_line_feed = refl

an_opening_without_a_line_feed : rate_input_in (codes "sheet 1") ≡ Err (Refused Lines 1)
unfolding rate_input_in section_in read_as sheet_section issuer_section is_utf8 chars lib.Utf8.encode price_row_in commitment_in region_in next_price
    next_commitment next_region sheet_of_rows sheet_in sheet_of_text currency_under issuer_in issuer_of_text key_name value_under text_under
    label_under base_under day_under price_under per_under service_category_under commitment_category_under rows_in rows_under parse_document lines
    line expression skip_bom skip_from skip_ws header_key key_equals key_after simple_key val atom quoted one_line body special define along_header
    along_dots at_key unquoted word_len word_value number underscore_fits plain_number decimal_number scan_numeral days_from_civil day_count
    days_of_years days_of_months worth_of
an_opening_without_a_line_feed = refl

no_openings_of_a_sheet : map (λ line. given (line ∷ batch_lines)) (codes "sheet 0" ∷ codes "sheet 01" ∷ codes "sheet  1" ∷ codes "sheet 200001" ∷ codes "sheet one" ∷ []) ≡ replicate 5 (Err (Refused Sheet 1))
unfolding rate_input_in section_in read_as sheet_section issuer_section is_utf8 chars lib.Utf8.encode price_row_in commitment_in region_in next_price
    next_commitment next_region sheet_of_rows sheet_in sheet_of_text currency_under issuer_in issuer_of_text key_name value_under text_under
    label_under base_under day_under price_under per_under service_category_under commitment_category_under rows_in rows_under parse_document lines
    line expression skip_bom skip_from skip_ws header_key key_equals key_after simple_key val atom quoted one_line body special define along_header
    along_dots at_key unquoted word_len word_value number underscore_fits plain_number decimal_number scan_numeral days_from_civil day_count
    days_of_years days_of_months worth_of
no_openings_of_a_sheet = refl

no_openings_of_an_issuer : map (λ line. given (with_sheet (line ∷ batch_lines))) (codes "issuer 0" ∷ codes "issuer 101" ∷ codes "issuer " ∷ []) ≡ replicate 3 (Err (Refused IssuerCode 15))
unfolding rate_input_in section_in read_as sheet_section issuer_section is_utf8 chars lib.Utf8.encode price_row_in commitment_in region_in next_price
    next_commitment next_region sheet_of_rows sheet_in sheet_of_text currency_under issuer_in issuer_of_text key_name value_under text_under
    label_under base_under day_under price_under per_under service_category_under commitment_category_under rows_in rows_under parse_document lines
    line expression skip_bom skip_from skip_ws header_key key_equals key_after simple_key val atom quoted one_line body special define along_header
    along_dots at_key unquoted word_len word_value number underscore_fits plain_number decimal_number scan_numeral days_from_civil day_count
    days_of_years days_of_months worth_of
no_openings_of_an_issuer = refl

-- the last line of its price is left out
a_sheet_that_is_none : given (codes "sheet 12" ∷ take 12 sheet_0_lines ++ with_issuer batch_lines) ≡ Err (Refused Sheet 1)
unfolding rate_input_in section_in read_as sheet_section issuer_section is_utf8 chars lib.Utf8.encode price_row_in commitment_in region_in next_price
    next_commitment next_region sheet_of_rows sheet_in sheet_of_text currency_under issuer_in issuer_of_text key_name value_under text_under
    label_under base_under day_under price_under per_under service_category_under commitment_category_under rows_in rows_under parse_document lines
    line expression skip_bom skip_from skip_ws header_key key_equals key_after simple_key val atom quoted one_line body special define along_header
    along_dots at_key unquoted word_len word_value number underscore_fits plain_number decimal_number scan_numeral days_from_civil day_count
    days_of_years days_of_months worth_of
a_sheet_that_is_none = refl

a_sheet_that_is_no_text : given (codes "sheet 1" ∷ (255 ∷ []) ∷ batch_lines) ≡ Err (Refused Sheet 1)
unfolding rate_input_in section_in read_as sheet_section issuer_section is_utf8 chars lib.Utf8.encode price_row_in commitment_in region_in next_price
    next_commitment next_region sheet_of_rows sheet_in sheet_of_text currency_under issuer_in issuer_of_text key_name value_under text_under
    label_under base_under day_under price_under per_under service_category_under commitment_category_under rows_in rows_under parse_document lines
    line expression skip_bom skip_from skip_ws header_key key_equals key_after simple_key val atom quoted one_line body special define along_header
    along_dots at_key unquoted word_len word_value number underscore_fits plain_number decimal_number scan_numeral days_from_civil day_count
    days_of_years days_of_months worth_of
a_sheet_that_is_no_text = refl

an_issuer_that_is_none : given (with_sheet (codes "issuer 6" ∷ take 6 issuer_lines ++ batch_lines)) ≡ Err (Refused IssuerCode 15)
unfolding rate_input_in section_in read_as sheet_section issuer_section is_utf8 chars lib.Utf8.encode price_row_in commitment_in region_in next_price
    next_commitment next_region sheet_of_rows sheet_in sheet_of_text currency_under issuer_in issuer_of_text key_name value_under text_under
    label_under base_under day_under price_under per_under service_category_under commitment_category_under rows_in rows_under parse_document lines
    line expression skip_bom skip_from skip_ws header_key key_equals key_after simple_key val atom quoted one_line body special define along_header
    along_dots at_key unquoted word_len word_value number underscore_fits plain_number decimal_number scan_numeral days_from_civil day_count
    days_of_years days_of_months worth_of
an_issuer_that_is_none = refl

the_sheet_before_the_issuer : given (codes "sheet 1" ∷ codes "base" ∷ codes "issuer 0" ∷ []) ≡ Err (Refused Sheet 1)
unfolding rate_input_in section_in read_as sheet_section issuer_section is_utf8 chars lib.Utf8.encode price_row_in commitment_in region_in next_price
    next_commitment next_region sheet_of_rows sheet_in sheet_of_text currency_under issuer_in issuer_of_text key_name value_under text_under
    label_under base_under day_under price_under per_under service_category_under commitment_category_under rows_in rows_under parse_document lines
    line expression skip_bom skip_from skip_ws header_key key_equals key_after simple_key val atom quoted one_line body special define along_header
    along_dots at_key unquoted word_len word_value number underscore_fits plain_number decimal_number scan_numeral days_from_civil day_count
    days_of_years days_of_months worth_of
the_sheet_before_the_issuer = refl
