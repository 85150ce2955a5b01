-- What `check` writes where something is warned of, and as which kind.
use Rattle.std.proofs.Common.{◌≡◌, ℕ, List, [], ◌∷◌, ◌++◌, take, drop, Option, Some, refl, sym, ap, ◌∙◌, arith, codes}
use Rattle.std.proofs.lemmas.Option.{same_Some}
use Rattle.std.specs.Prelude.{slice_get}
use Rattle.std.specs.Str.{is_utf8, chars}
use Rattle.std.specs.Fmt.{digits}
use Rattle.metering_model.specs.NumberText.{decimals_of}
use Rattle.metering_model.specs.Schedule.{lines_text}
use Rattle.metering_model.proofs.Samples.{sheet_0_lines, issuer_1_lines, reading_1}
use Rattle.batch_view.specs.Batches.{batch_of}
use Rattle.sheet_text.specs.Names.{key_name}
use Rattle.sheet_text.specs.Keys.{value_under, text_under, label_under, base_under, day_under, price_under, per_under, service_category_under, commitment_category_under, rows_in, rows_under}
use Rattle.sheet_text.specs.RowReading.{price_row_in, commitment_in, region_in}
use Rattle.sheet_text.specs.IssuerReading.{currency_under, issuer_in, issuer_of_text}
use Rattle.price_sheet.specs.SheetReading.{next_price, next_commitment, next_region, sheet_of_rows, sheet_in, sheet_of_text}
use Rattle.sheet_text.proofs.WorkedSteps.{scan_numeral, days_from_civil, day_count, days_of_years, days_of_months, skip_ws, skip_from, special, body}
use Rattle.sheet_text.proofs.WorkedSteps.{one_line, quoted, simple_key, key_after, underscore_fits, decimal_number, plain_number, number, word_value}
use Rattle.sheet_text.proofs.WorkedSteps.{word_len, unquoted, along_header, along_dots, at_key, define, key_equals, val, atom, header_key}
use Rattle.sheet_text.proofs.WorkedSteps.{expression, line, lines, skip_bom, parse_document}
use Rattle.metering_model.specs.NumberText.{worth_of}
use Rattle.input_sections.specs.Sections.{section_in, read_as, sheet_section, issuer_section}
use Rattle.input_sections.specs.RateInput.{rate_input_in}
use Rattle.schedule_reader.specs.Schedules.{group_in, head_line, nodes_line, number_line, event_in, line_event, journal_event, revival_event, events_in, preamble_in, schedule_in}
use Rattle.metering_model.specs.RatedAlone.{journaled_in}
use Rattle.fault_lines.specs.Fields.{fault_field}
use Rattle.fault_lines.specs.Told.{from_line, section_on, said_of_text}
use Rattle.fault_lines.specs.TomlStops.{stop_among, stop_from, stop_in, stop_words}
use Rattle.input_check.specs.Checks.{said_of_events, said_of_input_as, said_of_schedule, said_of_batch, said_of_rating}
use Rattle.fault_lines.specs.Ahead.{ahead_in, ahead_of, ahead_of_all}
use Rattle.fault_lines.specs.UnknownKeys.{keys_left, told_along, told_of_section, unknown_from, unknown_from_issuer, unknown_in_issuer, unknown_in_sheet, unknown_on, with_rows, with_table}
use Rattle.input_check.specs.Checks.{event_lines, lines_of_events}
use Rattle.input_check.specs.Warnings.{warned_of_input_as, warned_of_rating, warned_of_schedule}
use Rattle.input_check.specs.declared.kinds.InputKind.{InputKind}
use Rattle.input_check.specs.declared.kinds.InputKind.TheVariants as kind

abbrev written : InputKind → List (List ℕ) → List ℕ
written k ls = said_of_input_as k (lines_text ls) ++ warned_of_input_as k (lines_text ls)

-- ---- as which kind

abbrev batch_lines : List (List ℕ)
batch_lines = codes "sheet 13" ∷ sheet_0_lines ++ (codes "B1|1|1|1" ∷ reading_1 ∷ [])

no_schedule : written kind.Play batch_lines ≡ lines_text (codes "line 1: L1" ∷ [])
unfolding warned_of_rating warned_of_schedule unknown_on unknown_from unknown_from_issuer told_of_section unknown_in_sheet unknown_in_issuer
    with_table with_rows keys_left told_along ahead_of_all ahead_of ahead_in event_lines lines_of_events schedule_in said_of_rating said_of_batch
    said_of_schedule said_of_events said_of_text fault_field section_on from_line journaled_in batch_of rate_input_in preamble_in group_in head_line
    nodes_line number_line events_in event_in line_event journal_event revival_event section_in read_as sheet_section issuer_section is_utf8 chars
    lib.Utf8.encode price_row_in commitment_in region_in next_price next_commitment next_region sheet_of_rows sheet_in sheet_of_text currency_under
    issuer_in issuer_of_text key_name value_under text_under label_under base_under day_under price_under per_under service_category_under
    commitment_category_under rows_in rows_under parse_document lines line expression skip_bom skip_from skip_ws header_key key_equals key_after
    simple_key val atom quoted one_line body special define along_header along_dots at_key unquoted word_len word_value number underscore_fits
    plain_number decimal_number scan_numeral days_from_civil day_count days_of_years days_of_months worth_of decimals_of digits
no_schedule = refl

no_batch : written kind.Rate (codes "SCHEDULE 1" ∷ codes "nodes 3" ∷ []) ≡ lines_text (codes "line 1: G1 V1" ∷ [])
unfolding warned_of_rating warned_of_schedule unknown_on unknown_from unknown_from_issuer told_of_section unknown_in_sheet unknown_in_issuer
    with_table with_rows keys_left told_along ahead_of_all ahead_of ahead_in event_lines lines_of_events schedule_in said_of_rating said_of_batch
    said_of_schedule said_of_events said_of_text fault_field section_on from_line journaled_in batch_of rate_input_in preamble_in group_in head_line
    nodes_line number_line events_in event_in line_event journal_event revival_event section_in read_as sheet_section issuer_section is_utf8 chars
    lib.Utf8.encode price_row_in commitment_in region_in next_price next_commitment next_region sheet_of_rows sheet_in sheet_of_text currency_under
    issuer_in issuer_of_text key_name value_under text_under label_under base_under day_under price_under per_under service_category_under
    commitment_category_under rows_in rows_under parse_document lines line expression skip_bom skip_from skip_ws header_key key_equals key_after
    simple_key val atom quoted one_line body special define along_header along_dots at_key unquoted word_len word_value number underscore_fits
    plain_number decimal_number scan_numeral days_from_civil day_count days_of_years days_of_months worth_of decimals_of digits
no_batch = refl

-- ---- a batch: its head is line 15 of the input, its records are lines 16 and 17

abbrev late : List ℕ
late = codes "U|2026-01-12T00:00:00Z|2026-01-12T02:00:00Z|acc-7|vm-1|cpu|5400||env=prod"

abbrev with_second : List ℕ → List (List ℕ)
with_second line = codes "sheet 13" ∷ sheet_0_lines ++ (codes "B1|1|1|2" ∷ reading_1 ∷ line ∷ [])

-- 367 days after the reading above it
a_reading_far_ahead : written kind.Rate (with_second late) ≡ lines_text (codes "line 17: ahead 2026-01-12" ∷ [])
unfolding warned_of_rating warned_of_schedule unknown_on unknown_from unknown_from_issuer told_of_section unknown_in_sheet unknown_in_issuer
    with_table with_rows keys_left told_along ahead_of_all ahead_of ahead_in event_lines lines_of_events schedule_in said_of_rating said_of_batch
    said_of_schedule said_of_events said_of_text fault_field section_on from_line journaled_in batch_of rate_input_in preamble_in group_in head_line
    nodes_line number_line events_in event_in line_event journal_event revival_event section_in read_as sheet_section issuer_section is_utf8 chars
    lib.Utf8.encode price_row_in commitment_in region_in next_price next_commitment next_region sheet_of_rows sheet_in sheet_of_text currency_under
    issuer_in issuer_of_text key_name value_under text_under label_under base_under day_under price_under per_under service_category_under
    commitment_category_under rows_in rows_under parse_document lines line expression skip_bom skip_from skip_ws header_key key_equals key_after
    simple_key val atom quoted one_line body special define along_header along_dots at_key unquoted word_len word_value number underscore_fits
    plain_number decimal_number scan_numeral days_from_civil day_count days_of_years days_of_months worth_of decimals_of digits
a_reading_far_ahead = refl

a_reading_a_year_later : written kind.Rate (with_second (codes "U|2026-01-11T00:00:00Z|2026-01-11T02:00:00Z|acc-7|vm-1|cpu|5400||env=prod")) ≡ []
unfolding warned_of_rating warned_of_schedule unknown_on unknown_from unknown_from_issuer told_of_section unknown_in_sheet unknown_in_issuer
    with_table with_rows keys_left told_along ahead_of_all ahead_of ahead_in event_lines lines_of_events schedule_in said_of_rating said_of_batch
    said_of_schedule said_of_events said_of_text fault_field section_on from_line journaled_in batch_of rate_input_in preamble_in group_in head_line
    nodes_line number_line events_in event_in line_event journal_event revival_event section_in read_as sheet_section issuer_section is_utf8 chars
    lib.Utf8.encode price_row_in commitment_in region_in next_price next_commitment next_region sheet_of_rows sheet_in sheet_of_text currency_under
    issuer_in issuer_of_text key_name value_under text_under label_under base_under day_under price_under per_under service_category_under
    commitment_category_under rows_in rows_under parse_document lines line expression skip_bom skip_from skip_ws header_key key_equals key_after
    simple_key val atom quoted one_line body special define along_header along_dots at_key unquoted word_len word_value number underscore_fits
    plain_number decimal_number scan_numeral days_from_civil day_count days_of_years days_of_months worth_of decimals_of digits
a_reading_a_year_later = refl

-- of a batch that is refused nothing is warned of
a_refused_reading_far_ahead : written kind.Rate (codes "sheet 13" ∷ sheet_0_lines ++ (codes "B1|1|2|2" ∷ reading_1 ∷ late ∷ [])) ≡ lines_text (codes "line 15: G2 wanted 1" ∷ [])
unfolding warned_of_rating warned_of_schedule unknown_on unknown_from unknown_from_issuer told_of_section unknown_in_sheet unknown_in_issuer
    with_table with_rows keys_left told_along ahead_of_all ahead_of ahead_in event_lines lines_of_events schedule_in said_of_rating said_of_batch
    said_of_schedule said_of_events said_of_text fault_field section_on from_line journaled_in batch_of rate_input_in preamble_in group_in head_line
    nodes_line number_line events_in event_in line_event journal_event revival_event section_in read_as sheet_section issuer_section is_utf8 chars
    lib.Utf8.encode price_row_in commitment_in region_in next_price next_commitment next_region sheet_of_rows sheet_in sheet_of_text currency_under
    issuer_in issuer_of_text key_name value_under text_under label_under base_under day_under price_under per_under service_category_under
    commitment_category_under rows_in rows_under parse_document lines line expression skip_bom skip_from skip_ws header_key key_equals key_after
    simple_key val atom quoted one_line body special define along_header along_dots at_key unquoted word_len word_value number underscore_fits
    plain_number decimal_number scan_numeral days_from_civil day_count days_of_years days_of_months worth_of decimals_of digits
a_refused_reading_far_ahead = refl

-- ---- a key that no reader takes, on line 3

abbrev with_key : List (List ℕ) → List (List ℕ)
with_key batch = codes "sheet 14" ∷ take 1 sheet_0_lines ++ (codes "regions = 1" ∷ drop 1 sheet_0_lines ++ batch)

an_unknown_key : written kind.Rate (with_key (codes "B1|1|1|1" ∷ reading_1 ∷ [])) ≡ lines_text (codes "line 3: unknown regions" ∷ [])
unfolding warned_of_rating warned_of_schedule unknown_on unknown_from unknown_from_issuer told_of_section unknown_in_sheet unknown_in_issuer
    with_table with_rows keys_left told_along ahead_of_all ahead_of ahead_in event_lines lines_of_events schedule_in said_of_rating said_of_batch
    said_of_schedule said_of_events said_of_text fault_field section_on from_line journaled_in batch_of rate_input_in preamble_in group_in head_line
    nodes_line number_line events_in event_in line_event journal_event revival_event section_in read_as sheet_section issuer_section is_utf8 chars
    lib.Utf8.encode price_row_in commitment_in region_in next_price next_commitment next_region sheet_of_rows sheet_in sheet_of_text currency_under
    issuer_in issuer_of_text key_name value_under text_under label_under base_under day_under price_under per_under service_category_under
    commitment_category_under rows_in rows_under parse_document lines line expression skip_bom skip_from skip_ws header_key key_equals key_after
    simple_key val atom quoted one_line body special define along_header along_dots at_key unquoted word_len word_value number underscore_fits
    plain_number decimal_number scan_numeral days_from_civil day_count days_of_years days_of_months worth_of decimals_of digits
an_unknown_key = refl

a_warning_behind_a_refusal : written kind.Rate (with_key (codes "B1|1|1|1" ∷ codes "U|2025-01-10T00:00:00Z|2025-01-10T02:00:00Z|acc-7|vm-1|gpu|5400||env=prod" ∷ [])) ≡ lines_text (codes "line 17: G4 price gpu" ∷ codes "line 3: unknown regions" ∷ [])
unfolding warned_of_rating warned_of_schedule unknown_on unknown_from unknown_from_issuer told_of_section unknown_in_sheet unknown_in_issuer
    with_table with_rows keys_left told_along ahead_of_all ahead_of ahead_in event_lines lines_of_events schedule_in said_of_rating said_of_batch
    said_of_schedule said_of_events said_of_text fault_field section_on from_line journaled_in batch_of rate_input_in preamble_in group_in head_line
    nodes_line number_line events_in event_in line_event journal_event revival_event section_in read_as sheet_section issuer_section is_utf8 chars
    lib.Utf8.encode price_row_in commitment_in region_in next_price next_commitment next_region sheet_of_rows sheet_in sheet_of_text currency_under
    issuer_in issuer_of_text key_name value_under text_under label_under base_under day_under price_under per_under service_category_under
    commitment_category_under rows_in rows_under parse_document lines line expression skip_bom skip_from skip_ws header_key key_equals key_after
    simple_key val atom quoted one_line body special define along_header along_dots at_key unquoted word_len word_value number underscore_fits
    plain_number decimal_number scan_numeral days_from_civil day_count days_of_years days_of_months worth_of decimals_of digits
a_warning_behind_a_refusal = refl

apart : ◌≡◌ {A = Option ℕ} (Some 49) (Some 51) → ⊥
apart same = let is = same_Some 49 51 same in omega (arith, is)

no_warning_before_it : written kind.Rate (with_key (codes "B1|1|1|1" ∷ codes "U|2025-01-10T00:00:00Z|2025-01-10T02:00:00Z|acc-7|vm-1|gpu|5400||env=prod" ∷ [])) ≡ lines_text (codes "line 3: unknown regions" ∷ codes "line 17: G4 price gpu" ∷ []) → ⊥
no_warning_before_it before =
    apart (ap (λ t. slice_get t 5) (sym a_warning_behind_a_refusal ∙ before))

-- a fault of form is told alone
no_warning_of_a_bad_sheet : written kind.Rate (codes "sheet 15" ∷ take 1 sheet_0_lines ++ (codes "regions = 1" ∷ drop 1 sheet_0_lines ++ (codes "per = 1" ∷ codes "B1|1|1|1" ∷ reading_1 ∷ []))) ≡ lines_text (codes "line 1: L4 S1 line 16" ∷ [])
unfolding warned_of_rating warned_of_schedule unknown_on unknown_from unknown_from_issuer told_of_section unknown_in_sheet unknown_in_issuer
    with_table with_rows keys_left told_along ahead_of_all ahead_of ahead_in event_lines lines_of_events schedule_in said_of_rating said_of_batch
    said_of_schedule said_of_events said_of_text stop_words stop_from stop_in stop_among fault_field section_on from_line journaled_in batch_of rate_input_in preamble_in group_in head_line
    nodes_line number_line events_in event_in line_event journal_event revival_event section_in read_as sheet_section issuer_section is_utf8 chars
    lib.Utf8.encode price_row_in commitment_in region_in next_price next_commitment next_region sheet_of_rows sheet_in sheet_of_text currency_under
    issuer_in issuer_of_text key_name value_under text_under label_under base_under day_under price_under per_under service_category_under
    commitment_category_under rows_in rows_under parse_document lines line expression skip_bom skip_from skip_ws header_key key_equals key_after
    simple_key val atom quoted one_line body special define along_header along_dots at_key unquoted word_len word_value number underscore_fits
    plain_number decimal_number scan_numeral days_from_civil day_count days_of_years days_of_months worth_of decimals_of digits
no_warning_of_a_bad_sheet = refl

-- ---- a schedule of three nodes; its events begin on line 26

abbrev schedule_lines : List (List ℕ) → List (List ℕ)
schedule_lines events =
    codes "SCHEDULE 1" ∷ codes "nodes 3" ∷ codes "agents 1" ∷ (codes "sheet 13" ∷ sheet_0_lines) ++ (codes "issuer 7" ∷ issuer_1_lines) ++ events

abbrev first_journal : List (List ℕ)
first_journal = codes "journal 2" ∷ codes "B1|1|1|1" ∷ reading_1 ∷ []

a_later_batch_far_ahead : written kind.Play (schedule_lines (first_journal ++ (codes "journal 2" ∷ codes "B1|1|2|1" ∷ late ∷ []))) ≡ lines_text (codes "line 31: ahead 2026-01-12" ∷ [])
unfolding warned_of_rating warned_of_schedule unknown_on unknown_from unknown_from_issuer told_of_section unknown_in_sheet unknown_in_issuer
    with_table with_rows keys_left told_along ahead_of_all ahead_of ahead_in event_lines lines_of_events schedule_in said_of_rating said_of_batch
    said_of_schedule said_of_events said_of_text fault_field section_on from_line journaled_in batch_of rate_input_in preamble_in group_in head_line
    nodes_line number_line events_in event_in line_event journal_event revival_event section_in read_as sheet_section issuer_section is_utf8 chars
    lib.Utf8.encode price_row_in commitment_in region_in next_price next_commitment next_region sheet_of_rows sheet_in sheet_of_text currency_under
    issuer_in issuer_of_text key_name value_under text_under label_under base_under day_under price_under per_under service_category_under
    commitment_category_under rows_in rows_under parse_document lines line expression skip_bom skip_from skip_ws header_key key_equals key_after
    simple_key val atom quoted one_line body special define along_header along_dots at_key unquoted word_len word_value number underscore_fits
    plain_number decimal_number scan_numeral days_from_civil day_count days_of_years days_of_months worth_of decimals_of digits
a_later_batch_far_ahead = refl

-- were its reading one of those above, the last would not be far ahead
a_refused_batch_does_not_count : written kind.Play (schedule_lines (first_journal
    ++ (codes "journal 2" ∷ codes "B1|1|9|1" ∷ codes "U|2026-01-11T00:00:00Z|2026-01-11T02:00:00Z|acc-7|vm-1|cpu|5400||env=prod" ∷ codes "journal 2"
    ∷ codes "B1|1|2|1" ∷ late ∷ []))) ≡ lines_text (codes "line 30: G2 wanted 2" ∷ codes "line 34: ahead 2026-01-12" ∷ [])
unfolding warned_of_rating warned_of_schedule unknown_on unknown_from unknown_from_issuer told_of_section unknown_in_sheet unknown_in_issuer
    with_table with_rows keys_left told_along ahead_of_all ahead_of ahead_in event_lines lines_of_events schedule_in said_of_rating said_of_batch
    said_of_schedule said_of_events said_of_text fault_field section_on from_line journaled_in batch_of rate_input_in preamble_in group_in head_line
    nodes_line number_line events_in event_in line_event journal_event revival_event section_in read_as sheet_section issuer_section is_utf8 chars
    lib.Utf8.encode price_row_in commitment_in region_in next_price next_commitment next_region sheet_of_rows sheet_in sheet_of_text currency_under
    issuer_in issuer_of_text key_name value_under text_under label_under base_under day_under price_under per_under service_category_under
    commitment_category_under rows_in rows_under parse_document lines line expression skip_bom skip_from skip_ws header_key key_equals key_after
    simple_key val atom quoted one_line body special define along_header along_dots at_key unquoted word_len word_value number underscore_fits
    plain_number decimal_number scan_numeral days_from_civil day_count days_of_years days_of_months worth_of decimals_of digits
a_refused_batch_does_not_count = refl

no_warning_where_an_event_has_no_form : written kind.Play (schedule_lines (first_journal ++ (codes "journal 2" ∷ codes "B1|1|2|1" ∷ late ∷ codes "stop 0" ∷ []))) ≡ lines_text (codes "line 32: L6" ∷ [])
unfolding warned_of_rating warned_of_schedule unknown_on unknown_from unknown_from_issuer told_of_section unknown_in_sheet unknown_in_issuer
    with_table with_rows keys_left told_along ahead_of_all ahead_of ahead_in event_lines lines_of_events schedule_in said_of_rating said_of_batch
    said_of_schedule said_of_events said_of_text fault_field section_on from_line journaled_in batch_of rate_input_in preamble_in group_in head_line
    nodes_line number_line events_in event_in line_event journal_event revival_event section_in read_as sheet_section issuer_section is_utf8 chars
    lib.Utf8.encode price_row_in commitment_in region_in next_price next_commitment next_region sheet_of_rows sheet_in sheet_of_text currency_under
    issuer_in issuer_of_text key_name value_under text_under label_under base_under day_under price_under per_under service_category_under
    commitment_category_under rows_in rows_under parse_document lines line expression skip_bom skip_from skip_ws header_key key_equals key_after
    simple_key val atom quoted one_line body special define along_header along_dots at_key unquoted word_len word_value number underscore_fits
    plain_number decimal_number scan_numeral days_from_civil day_count days_of_years days_of_months worth_of decimals_of digits
no_warning_where_an_event_has_no_form = refl
