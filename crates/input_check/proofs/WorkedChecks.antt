-- What `check` says: of batches behind a sheet, and of schedules.
use Rattle.std.proofs.Common.{◌≡◌, ℕ, ◌+◌, List, [], ◌∷◌, ◌++◌, take, drop, refl, codes}
use Rattle.std.specs.Str.{is_utf8, chars}
use Rattle.std.specs.Fmt.{digits}
use Rattle.metering_model.specs.NumberText.{decimals_of}
use Rattle.metering_model.specs.Schedule.{lines_text}
use Rattle.metering_model.proofs.Samples.{sheet_0_lines, issuer_1_lines, reading_1}
use Rattle.batch_view.specs.Batches.{batch_of}
use Rattle.sheet_text.specs.Names.{key_name}
use Rattle.sheet_text.specs.Keys.{value_under, text_under, label_under, base_under, day_under, price_under, per_under, service_category_under, commitment_category_under, rows_in, rows_under}
use Rattle.sheet_text.specs.RowReading.{price_row_in, commitment_in, region_in}
use Rattle.sheet_text.specs.IssuerReading.{currency_under, issuer_in, issuer_of_text}
use Rattle.price_sheet.specs.SheetReading.{next_price, next_commitment, next_region, sheet_of_rows, sheet_in, sheet_of_text}
use Rattle.sheet_text.proofs.WorkedSteps.{scan_numeral, days_from_civil, day_count, days_of_years, days_of_months, skip_ws, skip_from, special, body}
use Rattle.sheet_text.proofs.WorkedSteps.{one_line, quoted, simple_key, key_after, underscore_fits, decimal_number, plain_number, number, word_value}
use Rattle.sheet_text.proofs.WorkedSteps.{word_len, unquoted, along_header, along_dots, at_key, define, key_equals, val, atom, header_key}
use Rattle.sheet_text.proofs.WorkedSteps.{expression, line, lines, skip_bom, parse_document}
use Rattle.metering_model.specs.NumberText.{worth_of}
use Rattle.input_sections.specs.Sections.{section_in, read_as, sheet_section, issuer_section}
use Rattle.input_sections.specs.RateInput.{rate_input_in}
use Rattle.schedule_reader.specs.Schedules.{group_in, head_line, nodes_line, number_line, event_in, line_event, journal_event, revival_event, events_in, preamble_in}
use Rattle.metering_model.specs.RatedAlone.{journaled_in}
use Rattle.fault_lines.specs.Fields.{fault_field}
use Rattle.fault_lines.specs.Told.{from_line, section_on, said_of_text}
use Rattle.input_check.specs.Checks.{said_of_events, said_of_schedule, said_of_batch, said_of_rating}
use Rattle.input_check.specs.Inputs.{said_of_input}

abbrev said : List (List ℕ) → List ℕ
said ls = said_of_input (lines_text ls)

-- the lines of which the one that so many stand before is another
abbrev changed : ℕ → List ℕ → List (List ℕ) → List (List ℕ)
changed n line ls = take n ls ++ line ∷ drop (n + 1) ls

-- ---- a batch: its head is line 15 of the input, its record line 16

abbrev batch_lines : List (List ℕ)
batch_lines = codes "sheet 13" ∷ sheet_0_lines ++ (codes "B1|1|1|1" ∷ reading_1 ∷ [])

a_good_batch : said batch_lines ≡ []
unfolding said_of_input said_of_rating said_of_batch said_of_schedule said_of_events said_of_text fault_field section_on from_line journaled_in
    batch_of rate_input_in preamble_in group_in head_line nodes_line number_line events_in event_in line_event journal_event revival_event section_in
    read_as sheet_section issuer_section is_utf8 chars lib.Utf8.encode price_row_in commitment_in region_in next_price next_commitment next_region
    sheet_of_rows sheet_in sheet_of_text currency_under issuer_in issuer_of_text key_name value_under text_under label_under base_under day_under
    price_under per_under service_category_under commitment_category_under rows_in rows_under parse_document lines line expression skip_bom skip_from
    skip_ws header_key key_equals key_after simple_key val atom quoted one_line body special define along_header along_dots at_key unquoted word_len
    word_value number underscore_fits plain_number decimal_number scan_numeral days_from_civil day_count days_of_years days_of_months worth_of
    decimals_of digits
a_good_batch = refl

a_bad_number : said (changed 15 (codes "U|2025-01-10T00:00:00Z|2025-01-10T02:00:00Z|acc-7|vm-1|cpu|54.00||env=prod") batch_lines) ≡ lines_text (codes "line 16: G1 V5 value" ∷ [])
unfolding said_of_input said_of_rating said_of_batch said_of_schedule said_of_events said_of_text fault_field section_on from_line journaled_in
    batch_of rate_input_in preamble_in group_in head_line nodes_line number_line events_in event_in line_event journal_event revival_event section_in
    read_as sheet_section issuer_section is_utf8 chars lib.Utf8.encode price_row_in commitment_in region_in next_price next_commitment next_region
    sheet_of_rows sheet_in sheet_of_text currency_under issuer_in issuer_of_text key_name value_under text_under label_under base_under day_under
    price_under per_under service_category_under commitment_category_under rows_in rows_under parse_document lines line expression skip_bom skip_from
    skip_ws header_key key_equals key_after simple_key val atom quoted one_line body special define along_header along_dots at_key unquoted word_len
    word_value number underscore_fits plain_number decimal_number scan_numeral days_from_civil day_count days_of_years days_of_months worth_of
    decimals_of digits
a_bad_number = refl

a_bad_head : said (changed 14 (codes "B3|1|1|1") batch_lines) ≡ lines_text (codes "line 15: G1 V1" ∷ [])
unfolding said_of_input said_of_rating said_of_batch said_of_schedule said_of_events said_of_text fault_field section_on from_line journaled_in
    batch_of rate_input_in preamble_in group_in head_line nodes_line number_line events_in event_in line_event journal_event revival_event section_in
    read_as sheet_section issuer_section is_utf8 chars lib.Utf8.encode price_row_in commitment_in region_in next_price next_commitment next_region
    sheet_of_rows sheet_in sheet_of_text currency_under issuer_in issuer_of_text key_name value_under text_under label_under base_under day_under
    price_under per_under service_category_under commitment_category_under rows_in rows_under parse_document lines line expression skip_bom skip_from
    skip_ws header_key key_equals key_after simple_key val atom quoted one_line body special define along_header along_dots at_key unquoted word_len
    word_value number underscore_fits plain_number decimal_number scan_numeral days_from_civil day_count days_of_years days_of_months worth_of
    decimals_of digits
a_bad_head = refl

not_the_first_batch : said (changed 14 (codes "B1|1|2|1") batch_lines) ≡ lines_text (codes "line 15: G2 wanted 1" ∷ [])
unfolding said_of_input said_of_rating said_of_batch said_of_schedule said_of_events said_of_text fault_field section_on from_line journaled_in
    batch_of rate_input_in preamble_in group_in head_line nodes_line number_line events_in event_in line_event journal_event revival_event section_in
    read_as sheet_section issuer_section is_utf8 chars lib.Utf8.encode price_row_in commitment_in region_in next_price next_commitment next_region
    sheet_of_rows sheet_in sheet_of_text currency_under issuer_in issuer_of_text key_name value_under text_under label_under base_under day_under
    price_under per_under service_category_under commitment_category_under rows_in rows_under parse_document lines line expression skip_bom skip_from
    skip_ws header_key key_equals key_after simple_key val atom quoted one_line body special define along_header along_dots at_key unquoted word_len
    word_value number underscore_fits plain_number decimal_number scan_numeral days_from_civil day_count days_of_years days_of_months worth_of
    decimals_of digits
not_the_first_batch = refl

an_amendment_of_nothing : said (changed 15 (codes "X|1|0|1") batch_lines) ≡ lines_text (codes "line 16: G3 1 0" ∷ [])
unfolding said_of_input said_of_rating said_of_batch said_of_schedule said_of_events said_of_text fault_field section_on from_line journaled_in
    batch_of rate_input_in preamble_in group_in head_line nodes_line number_line events_in event_in line_event journal_event revival_event section_in
    read_as sheet_section issuer_section is_utf8 chars lib.Utf8.encode price_row_in commitment_in region_in next_price next_commitment next_region
    sheet_of_rows sheet_in sheet_of_text currency_under issuer_in issuer_of_text key_name value_under text_under label_under base_under day_under
    price_under per_under service_category_under commitment_category_under rows_in rows_under parse_document lines line expression skip_bom skip_from
    skip_ws header_key key_equals key_after simple_key val atom quoted one_line body special define along_header along_dots at_key unquoted word_len
    word_value number underscore_fits plain_number decimal_number scan_numeral days_from_civil day_count days_of_years days_of_months worth_of
    decimals_of digits
an_amendment_of_nothing = refl

no_price : said (changed 15 (codes "U|2025-01-10T00:00:00Z|2025-01-10T02:00:00Z|acc-7|vm-1|gpu|5400||env=prod") batch_lines) ≡ lines_text (codes "line 16: G4 price gpu" ∷ [])
unfolding said_of_input said_of_rating said_of_batch said_of_schedule said_of_events said_of_text fault_field section_on from_line journaled_in
    batch_of rate_input_in preamble_in group_in head_line nodes_line number_line events_in event_in line_event journal_event revival_event section_in
    read_as sheet_section issuer_section is_utf8 chars lib.Utf8.encode price_row_in commitment_in region_in next_price next_commitment next_region
    sheet_of_rows sheet_in sheet_of_text currency_under issuer_in issuer_of_text key_name value_under text_under label_under base_under day_under
    price_under per_under service_category_under commitment_category_under rows_in rows_under parse_document lines line expression skip_bom skip_from
    skip_ws header_key key_equals key_after simple_key val atom quoted one_line body special define along_header along_dots at_key unquoted word_len
    word_value number underscore_fits plain_number decimal_number scan_numeral days_from_civil day_count days_of_years days_of_months worth_of
    decimals_of digits
no_price = refl

-- no usage has a price there
a_batch_without_a_sheet : said (codes "B1|1|1|1" ∷ reading_1 ∷ []) ≡ lines_text (codes "line 2: G4 price cpu" ∷ [])
unfolding said_of_input said_of_rating said_of_batch said_of_schedule said_of_events said_of_text fault_field section_on from_line journaled_in
    batch_of rate_input_in preamble_in group_in head_line nodes_line number_line events_in event_in line_event journal_event revival_event section_in
    read_as sheet_section issuer_section is_utf8 chars lib.Utf8.encode price_row_in commitment_in region_in next_price next_commitment next_region
    sheet_of_rows sheet_in sheet_of_text currency_under issuer_in issuer_of_text key_name value_under text_under label_under base_under day_under
    price_under per_under service_category_under commitment_category_under rows_in rows_under parse_document lines line expression skip_bom skip_from
    skip_ws header_key key_equals key_after simple_key val atom quoted one_line body special define along_header along_dots at_key unquoted word_len
    word_value number underscore_fits plain_number decimal_number scan_numeral days_from_civil day_count days_of_years days_of_months worth_of
    decimals_of digits
a_batch_without_a_sheet = refl

-- ---- a section

a_bad_price : said (changed 11 (codes "per = 0") batch_lines) ≡ lines_text (codes "line 1: L4 S3 price 1 per" ∷ [])
unfolding said_of_input said_of_rating said_of_batch said_of_schedule said_of_events said_of_text fault_field section_on from_line journaled_in
    batch_of rate_input_in preamble_in group_in head_line nodes_line number_line events_in event_in line_event journal_event revival_event section_in
    read_as sheet_section issuer_section is_utf8 chars lib.Utf8.encode price_row_in commitment_in region_in next_price next_commitment next_region
    sheet_of_rows sheet_in sheet_of_text currency_under issuer_in issuer_of_text key_name value_under text_under label_under base_under day_under
    price_under per_under service_category_under commitment_category_under rows_in rows_under parse_document lines line expression skip_bom skip_from
    skip_ws header_key key_equals key_after simple_key val atom quoted one_line body special define along_header along_dots at_key unquoted word_len
    word_value number underscore_fits plain_number decimal_number scan_numeral days_from_civil day_count days_of_years days_of_months worth_of
    decimals_of digits
a_bad_price = refl

a_sheet_without_a_base : said (changed 1 (codes "# none") batch_lines) ≡ lines_text (codes "line 1: L4 S2 top base" ∷ [])
unfolding said_of_input said_of_rating said_of_batch said_of_schedule said_of_events said_of_text fault_field section_on from_line journaled_in
    batch_of rate_input_in preamble_in group_in head_line nodes_line number_line events_in event_in line_event journal_event revival_event section_in
    read_as sheet_section issuer_section is_utf8 chars lib.Utf8.encode price_row_in commitment_in region_in next_price next_commitment next_region
    sheet_of_rows sheet_in sheet_of_text currency_under issuer_in issuer_of_text key_name value_under text_under label_under base_under day_under
    price_under per_under service_category_under commitment_category_under rows_in rows_under parse_document lines line expression skip_bom skip_from
    skip_ws header_key key_equals key_after simple_key val atom quoted one_line body special define along_header along_dots at_key unquoted word_len
    word_value number underscore_fits plain_number decimal_number scan_numeral days_from_civil day_count days_of_years days_of_months worth_of
    decimals_of digits
a_sheet_without_a_base = refl

a_sheet_that_breaks_off : said (codes "sheet 99" ∷ drop 1 batch_lines) ≡ lines_text (codes "line 1: L7" ∷ [])
unfolding said_of_input said_of_rating said_of_batch said_of_schedule said_of_events said_of_text fault_field section_on from_line journaled_in
    batch_of rate_input_in preamble_in group_in head_line nodes_line number_line events_in event_in line_event journal_event revival_event section_in
    read_as sheet_section issuer_section is_utf8 chars lib.Utf8.encode price_row_in commitment_in region_in next_price next_commitment next_region
    sheet_of_rows sheet_in sheet_of_text currency_under issuer_in issuer_of_text key_name value_under text_under label_under base_under day_under
    price_under per_under service_category_under commitment_category_under rows_in rows_under parse_document lines line expression skip_bom skip_from
    skip_ws header_key key_equals key_after simple_key val atom quoted one_line body special define along_header along_dots at_key unquoted word_len
    word_value number underscore_fits plain_number decimal_number scan_numeral days_from_civil day_count days_of_years days_of_months worth_of
    decimals_of digits
a_sheet_that_breaks_off = refl

no_utf8 : said (codes "sheet 1" ∷ (255 ∷ []) ∷ []) ≡ lines_text (codes "line 1: L4 not UTF-8" ∷ [])
unfolding said_of_input said_of_rating said_of_batch said_of_schedule said_of_events said_of_text fault_field section_on from_line journaled_in
    batch_of rate_input_in preamble_in group_in head_line nodes_line number_line events_in event_in line_event journal_event revival_event section_in
    read_as sheet_section issuer_section is_utf8 chars lib.Utf8.encode price_row_in commitment_in region_in next_price next_commitment next_region
    sheet_of_rows sheet_in sheet_of_text currency_under issuer_in issuer_of_text key_name value_under text_under label_under base_under day_under
    price_under per_under service_category_under commitment_category_under rows_in rows_under parse_document lines line expression skip_bom skip_from
    skip_ws header_key key_equals key_after simple_key val atom quoted one_line body special define along_header along_dots at_key unquoted word_len
    word_value number underscore_fits plain_number decimal_number scan_numeral days_from_civil day_count days_of_years days_of_months worth_of
    decimals_of digits
no_utf8 = refl

-- ---- a schedule of three nodes; its events begin on line 26

abbrev schedule_lines : List (List ℕ) → List (List ℕ)
schedule_lines events =
    codes "SCHEDULE 1" ∷ codes "nodes 3" ∷ codes "agents 1" ∷ (codes "sheet 13" ∷ sheet_0_lines) ++ (codes "issuer 7" ∷ issuer_1_lines) ++ events

abbrev first_events : List (List ℕ)
first_events = codes "journal 2" ∷ codes "B1|1|1|1" ∷ reading_1 ∷ codes "deliver 0 0" ∷ codes "start 0" ∷ []

a_good_schedule : said (schedule_lines first_events) ≡ []
unfolding said_of_input said_of_rating said_of_batch said_of_schedule said_of_events said_of_text fault_field section_on from_line journaled_in
    batch_of rate_input_in preamble_in group_in head_line nodes_line number_line events_in event_in line_event journal_event revival_event section_in
    read_as sheet_section issuer_section is_utf8 chars lib.Utf8.encode price_row_in commitment_in region_in next_price next_commitment next_region
    sheet_of_rows sheet_in sheet_of_text currency_under issuer_in issuer_of_text key_name value_under text_under label_under base_under day_under
    price_under per_under service_category_under commitment_category_under rows_in rows_under parse_document lines line expression skip_bom skip_from
    skip_ws header_key key_equals key_after simple_key val atom quoted one_line body special define along_header along_dots at_key unquoted word_len
    word_value number underscore_fits plain_number decimal_number scan_numeral days_from_civil day_count days_of_years days_of_months worth_of
    decimals_of digits
a_good_schedule = refl

one_event_is_refused : said (schedule_lines (first_events ++ codes "export 0 0" ∷ [])) ≡ lines_text (codes "line 31: G7 learned 0" ∷ [])
unfolding said_of_input said_of_rating said_of_batch said_of_schedule said_of_events said_of_text fault_field section_on from_line journaled_in
    batch_of rate_input_in preamble_in group_in head_line nodes_line number_line events_in event_in line_event journal_event revival_event section_in
    read_as sheet_section issuer_section is_utf8 chars lib.Utf8.encode price_row_in commitment_in region_in next_price next_commitment next_region
    sheet_of_rows sheet_in sheet_of_text currency_under issuer_in issuer_of_text key_name value_under text_under label_under base_under day_under
    price_under per_under service_category_under commitment_category_under rows_in rows_under parse_document lines line expression skip_bom skip_from
    skip_ws header_key key_equals key_after simple_key val atom quoted one_line body special define along_header along_dots at_key unquoted word_len
    word_value number underscore_fits plain_number decimal_number scan_numeral days_from_civil day_count days_of_years days_of_months worth_of
    decimals_of digits
one_event_is_refused = refl

-- told at its own line; what waits for its packet is refused too
a_bad_batch_of_a_journal : said (schedule_lines (changed 2 (codes "U|2025-01-10T00:00:00Z|2025-01-10T02:00:00Z|acc-7|vm-1|cpu|54.00||env=prod") first_events)) ≡ lines_text (codes "line 28: G1 V5 value" ∷ codes "line 29: G5" ∷ [])
unfolding said_of_input said_of_rating said_of_batch said_of_schedule said_of_events said_of_text fault_field section_on from_line journaled_in
    batch_of rate_input_in preamble_in group_in head_line nodes_line number_line events_in event_in line_event journal_event revival_event section_in
    read_as sheet_section issuer_section is_utf8 chars lib.Utf8.encode price_row_in commitment_in region_in next_price next_commitment next_region
    sheet_of_rows sheet_in sheet_of_text currency_under issuer_in issuer_of_text key_name value_under text_under label_under base_under day_under
    price_under per_under service_category_under commitment_category_under rows_in rows_under parse_document lines line expression skip_bom skip_from
    skip_ws header_key key_equals key_after simple_key val atom quoted one_line body special define along_header along_dots at_key unquoted word_len
    word_value number underscore_fits plain_number decimal_number scan_numeral days_from_civil day_count days_of_years days_of_months worth_of
    decimals_of digits
a_bad_batch_of_a_journal = refl

-- told at the record, in a journal whose earlier records are well
a_bad_record_of_a_journal : said (schedule_lines (codes "journal 3" ∷ codes "B1|1|1|2" ∷ reading_1 ∷ codes "X|1|1|1" ∷ [])) ≡ lines_text (codes "line 29: G3 1 1" ∷ [])
unfolding said_of_input said_of_rating said_of_batch said_of_schedule said_of_events said_of_text fault_field section_on from_line journaled_in
    batch_of rate_input_in preamble_in group_in head_line nodes_line number_line events_in event_in line_event journal_event revival_event section_in
    read_as sheet_section issuer_section is_utf8 chars lib.Utf8.encode price_row_in commitment_in region_in next_price next_commitment next_region
    sheet_of_rows sheet_in sheet_of_text currency_under issuer_in issuer_of_text key_name value_under text_under label_under base_under day_under
    price_under per_under service_category_under commitment_category_under rows_in rows_under parse_document lines line expression skip_bom skip_from
    skip_ws header_key key_equals key_after simple_key val atom quoted one_line body special define along_header along_dots at_key unquoted word_len
    word_value number underscore_fits plain_number decimal_number scan_numeral days_from_civil day_count days_of_years days_of_months worth_of
    decimals_of digits
a_bad_record_of_a_journal = refl

no_such_commitment : said (schedule_lines (codes "journal 3" ∷ codes "B1|1|1|2" ∷ reading_1 ∷ codes "U|2025-01-10T00:00:00Z|2025-01-10T02:00:00Z|acc-7|vm-1|cpu|1|cm-2|" ∷ [])) ≡ lines_text (codes "line 29: G4 commitment cm-2" ∷ [])
unfolding said_of_input said_of_rating said_of_batch said_of_schedule said_of_events said_of_text fault_field section_on from_line journaled_in
    batch_of rate_input_in preamble_in group_in head_line nodes_line number_line events_in event_in line_event journal_event revival_event section_in
    read_as sheet_section issuer_section is_utf8 chars lib.Utf8.encode price_row_in commitment_in region_in next_price next_commitment next_region
    sheet_of_rows sheet_in sheet_of_text currency_under issuer_in issuer_of_text key_name value_under text_under label_under base_under day_under
    price_under per_under service_category_under commitment_category_under rows_in rows_under parse_document lines line expression skip_bom skip_from
    skip_ws header_key key_equals key_after simple_key val atom quoted one_line body special define along_header along_dots at_key unquoted word_len
    word_value number underscore_fits plain_number decimal_number scan_numeral days_from_civil day_count days_of_years days_of_months worth_of
    decimals_of digits
no_such_commitment = refl

-- alone: no event is played
a_line_that_is_no_event : said (schedule_lines (first_events ++ codes "stop 0" ∷ codes "export 0 0" ∷ [])) ≡ lines_text (codes "line 31: L6" ∷ [])
unfolding said_of_input said_of_rating said_of_batch said_of_schedule said_of_events said_of_text fault_field section_on from_line journaled_in
    batch_of rate_input_in preamble_in group_in head_line nodes_line number_line events_in event_in line_event journal_event revival_event section_in
    read_as sheet_section issuer_section is_utf8 chars lib.Utf8.encode price_row_in commitment_in region_in next_price next_commitment next_region
    sheet_of_rows sheet_in sheet_of_text currency_under issuer_in issuer_of_text key_name value_under text_under label_under base_under day_under
    price_under per_under service_category_under commitment_category_under rows_in rows_under parse_document lines line expression skip_bom skip_from
    skip_ws header_key key_equals key_after simple_key val atom quoted one_line body special define along_header along_dots at_key unquoted word_len
    word_value number underscore_fits plain_number decimal_number scan_numeral days_from_civil day_count days_of_years days_of_months worth_of
    decimals_of digits
a_line_that_is_no_event = refl

a_bad_currency : said (changed 23 (codes "currency = \"usd\"") (schedule_lines [])) ≡ lines_text (codes "line 18: L5 I3 currency" ∷ [])
unfolding said_of_input said_of_rating said_of_batch said_of_schedule said_of_events said_of_text fault_field section_on from_line journaled_in
    batch_of rate_input_in preamble_in group_in head_line nodes_line number_line events_in event_in line_event journal_event revival_event section_in
    read_as sheet_section issuer_section is_utf8 chars lib.Utf8.encode price_row_in commitment_in region_in next_price next_commitment next_region
    sheet_of_rows sheet_in sheet_of_text currency_under issuer_in issuer_of_text key_name value_under text_under label_under base_under day_under
    price_under per_under service_category_under commitment_category_under rows_in rows_under parse_document lines line expression skip_bom skip_from
    skip_ws header_key key_equals key_after simple_key val atom quoted one_line body special define along_header along_dots at_key unquoted word_len
    word_value number underscore_fits plain_number decimal_number scan_numeral days_from_civil day_count days_of_years days_of_months worth_of
    decimals_of digits
a_bad_currency = refl

a_schedule_with_a_bad_price : said (changed 14 (codes "per = 0") (schedule_lines first_events)) ≡ lines_text (codes "line 4: L4 S3 price 1 per" ∷ [])
unfolding said_of_input said_of_rating said_of_batch said_of_schedule said_of_events said_of_text fault_field section_on from_line journaled_in
    batch_of rate_input_in preamble_in group_in head_line nodes_line number_line events_in event_in line_event journal_event revival_event section_in
    read_as sheet_section issuer_section is_utf8 chars lib.Utf8.encode price_row_in commitment_in region_in next_price next_commitment next_region
    sheet_of_rows sheet_in sheet_of_text currency_under issuer_in issuer_of_text key_name value_under text_under label_under base_under day_under
    price_under per_under service_category_under commitment_category_under rows_in rows_under parse_document lines line expression skip_bom skip_from
    skip_ws header_key key_equals key_after simple_key val atom quoted one_line body special define along_header along_dots at_key unquoted word_len
    word_value number underscore_fits plain_number decimal_number scan_numeral days_from_civil day_count days_of_years days_of_months worth_of
    decimals_of digits
a_schedule_with_a_bad_price = refl
