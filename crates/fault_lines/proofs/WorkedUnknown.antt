-- Which keys are told as unknown, and at which lines. The sections open on line 4, so their first line is line 5.
use Rattle.std.proofs.Common.{◌≡◌, [], ◌∷◌, refl, codes}
use Rattle.std.specs.Str.{is_utf8, chars}
use Rattle.std.specs.Fmt.{digits}
use Rattle.metering_model.specs.Schedule.{lines_text}
use Rattle.sheet_text.specs.Names.{key_name}
use Rattle.sheet_text.specs.Keys.{rows_in, rows_under}
use Rattle.input_sections.specs.Sections.{section_in}
use Rattle.sheet_text.proofs.WorkedSteps.{scan_numeral, skip_ws, skip_from, special, body, one_line, quoted, simple_key, key_after, underscore_fits}
use Rattle.sheet_text.proofs.WorkedSteps.{decimal_number, plain_number, number, word_value, word_len, unquoted, along_header, along_dots, at_key}
use Rattle.sheet_text.proofs.WorkedSteps.{define, key_equals, val, atom, header_key, expression, line, lines, skip_bom, parse_document}
use Rattle.fault_lines.specs.UnknownKeys.{keys_left, told_along, told_of_section, unknown_from, unknown_from_issuer, unknown_in_issuer, unknown_in_sheet, with_rows, with_table}

a_known_sheet : told_of_section unknown_in_sheet 4 (lines_text (codes "base = \"2025-01\"" ∷ codes "[[price]]" ∷ codes "sku = \"cpu\"" ∷ codes "per = 1" ∷ [])) ≡ lines_text ([])
unfolding told_of_section unknown_in_sheet unknown_in_issuer with_table with_rows keys_left told_along key_name rows_in rows_under is_utf8 chars
    lib.Utf8.encode parse_document lines line expression skip_bom skip_from skip_ws header_key key_equals key_after simple_key val atom quoted
    one_line body special define along_header along_dots at_key unquoted word_len word_value number underscore_fits plain_number decimal_number
    scan_numeral digits
a_known_sheet = refl

at_the_top : told_of_section unknown_in_sheet 4 (lines_text (codes "base = \"2025-01\"" ∷ codes "regions = 1" ∷ [])) ≡ lines_text (codes "line 6: unknown regions" ∷ [])
unfolding told_of_section unknown_in_sheet unknown_in_issuer with_table with_rows keys_left told_along key_name rows_in rows_under is_utf8 chars
    lib.Utf8.encode parse_document lines line expression skip_bom skip_from skip_ws header_key key_equals key_after simple_key val atom quoted
    one_line body special define along_header along_dots at_key unquoted word_len word_value number underscore_fits plain_number decimal_number
    scan_numeral digits
at_the_top = refl

-- what stands below such a table is of no reader, and not told
a_table_of_a_wrong_name : told_of_section unknown_in_sheet 4 (lines_text (codes "[[regions]]" ∷ codes "id = \"eu\"" ∷ codes "[[price]]" ∷ codes "per = 1" ∷ [])) ≡ lines_text (codes "line 5: unknown regions" ∷ [])
unfolding told_of_section unknown_in_sheet unknown_in_issuer with_table with_rows keys_left told_along key_name rows_in rows_under is_utf8 chars
    lib.Utf8.encode parse_document lines line expression skip_bom skip_from skip_ws header_key key_equals key_after simple_key val atom quoted
    one_line body special define along_header along_dots at_key unquoted word_len word_value number underscore_fits plain_number decimal_number
    scan_numeral digits
a_table_of_a_wrong_name = refl

-- a key of several rows is told once
in_two_rows : told_of_section unknown_in_sheet 4 (lines_text (codes "[[price]]" ∷ codes "discount = 1" ∷ codes "[[price]]" ∷ codes "discount = 2" ∷ [])) ≡ lines_text (codes "line 6: unknown discount" ∷ [])
unfolding told_of_section unknown_in_sheet unknown_in_issuer with_table with_rows keys_left told_along key_name rows_in rows_under is_utf8 chars
    lib.Utf8.encode parse_document lines line expression skip_bom skip_from skip_ws header_key key_equals key_after simple_key val atom quoted
    one_line body special define along_header along_dots at_key unquoted word_len word_value number underscore_fits plain_number decimal_number
    scan_numeral digits
in_two_rows = refl

-- of each table once
in_two_tables : told_of_section unknown_in_sheet 4 (lines_text (codes "[[price]]" ∷ codes "discount = 1" ∷ codes "[[region]]" ∷ codes "discount = 2" ∷ [])) ≡ lines_text (codes "line 6: unknown discount" ∷ codes "line 8: unknown discount" ∷ [])
unfolding told_of_section unknown_in_sheet unknown_in_issuer with_table with_rows keys_left told_along key_name rows_in rows_under is_utf8 chars
    lib.Utf8.encode parse_document lines line expression skip_bom skip_from skip_ws header_key key_equals key_after simple_key val atom quoted
    one_line body special define along_header along_dots at_key unquoted word_len word_value number underscore_fits plain_number decimal_number
    scan_numeral digits
in_two_tables = refl

-- what one table has, another may lack
known_elsewhere : told_of_section unknown_in_sheet 4 (lines_text (codes "[[region]]" ∷ codes "id = 1" ∷ codes "[[price]]" ∷ codes "id = 2" ∷ [])) ≡ lines_text (codes "line 8: unknown id" ∷ [])
unfolding told_of_section unknown_in_sheet unknown_in_issuer with_table with_rows keys_left told_along key_name rows_in rows_under is_utf8 chars
    lib.Utf8.encode parse_document lines line expression skip_bom skip_from skip_ws header_key key_equals key_after simple_key val atom quoted
    one_line body special define along_header along_dots at_key unquoted word_len word_value number underscore_fits plain_number decimal_number
    scan_numeral digits
known_elsewhere = refl

in_the_order_of_lines : told_of_section unknown_in_sheet 4 (lines_text (codes "b = 1" ∷ codes "a = 2" ∷ [])) ≡ lines_text (codes "line 5: unknown b" ∷ codes "line 6: unknown a" ∷ [])
unfolding told_of_section unknown_in_sheet unknown_in_issuer with_table with_rows keys_left told_along key_name rows_in rows_under is_utf8 chars
    lib.Utf8.encode parse_document lines line expression skip_bom skip_from skip_ws header_key key_equals key_after simple_key val atom quoted
    one_line body special define along_header along_dots at_key unquoted word_len word_value number underscore_fits plain_number decimal_number
    scan_numeral digits
in_the_order_of_lines = refl

behind_blanks_and_marks : told_of_section unknown_in_sheet 4 (lines_text (codes "  \"note\" = 1" ∷ [])) ≡ lines_text (codes "line 5: unknown note" ∷ [])
unfolding told_of_section unknown_in_sheet unknown_in_issuer with_table with_rows keys_left told_along key_name rows_in rows_under is_utf8 chars
    lib.Utf8.encode parse_document lines line expression skip_bom skip_from skip_ws header_key key_equals key_after simple_key val atom quoted
    one_line body special define along_header along_dots at_key unquoted word_len word_value number underscore_fits plain_number decimal_number
    scan_numeral digits
behind_blanks_and_marks = refl

-- told where the section opens
no_line_of_its_own : told_of_section unknown_in_sheet 4 (lines_text (codes "c = 1" ∷ codes "\"a b\" = 1" ∷ [])) ≡ lines_text (codes "line 4: unknown a b" ∷ codes "line 5: unknown c" ∷ [])
unfolding told_of_section unknown_in_sheet unknown_in_issuer with_table with_rows keys_left told_along key_name rows_in rows_under is_utf8 chars
    lib.Utf8.encode parse_document lines line expression skip_bom skip_from skip_ws header_key key_equals key_after simple_key val atom quoted
    one_line body special define along_header along_dots at_key unquoted word_len word_value number underscore_fits plain_number decimal_number
    scan_numeral digits
no_line_of_its_own = refl

-- a line that begins with more than the key is none of its
a_longer_word : told_of_section unknown_in_sheet 4 (lines_text (codes "notes = 1" ∷ codes "\"note.s\" = 2" ∷ [])) ≡ lines_text (codes "line 4: unknown note.s" ∷ codes "line 5: unknown notes" ∷ [])
unfolding told_of_section unknown_in_sheet unknown_in_issuer with_table with_rows keys_left told_along key_name rows_in rows_under is_utf8 chars
    lib.Utf8.encode parse_document lines line expression skip_bom skip_from skip_ws header_key key_equals key_after simple_key val atom quoted
    one_line body special define along_header along_dots at_key unquoted word_len word_value number underscore_fits plain_number decimal_number
    scan_numeral digits
a_longer_word = refl

of_an_issuer : told_of_section unknown_in_issuer 4 (lines_text (codes "provider = \"P\"" ∷ codes "vat = 1" ∷ [])) ≡ lines_text (codes "line 6: unknown vat" ∷ [])
unfolding told_of_section unknown_in_sheet unknown_in_issuer with_table with_rows keys_left told_along key_name rows_in rows_under is_utf8 chars
    lib.Utf8.encode parse_document lines line expression skip_bom skip_from skip_ws header_key key_equals key_after simple_key val atom quoted
    one_line body special define along_header along_dots at_key unquoted word_len word_value number underscore_fits plain_number decimal_number
    scan_numeral digits
of_an_issuer = refl

-- of what is no TOML nothing is told
no_table : told_of_section unknown_in_sheet 4 (lines_text (codes "= 1" ∷ [])) ≡ lines_text ([])
unfolding told_of_section unknown_in_sheet unknown_in_issuer with_table with_rows keys_left told_along key_name rows_in rows_under is_utf8 chars
    lib.Utf8.encode parse_document lines line expression skip_bom skip_from skip_ws header_key key_equals key_after simple_key val atom quoted
    one_line body special define along_header along_dots at_key unquoted word_len word_value number underscore_fits plain_number decimal_number
    scan_numeral digits
no_table = refl

-- ---- the sections at the front of an input

-- a sheet, and an issuer behind it
of_both_sections : unknown_from (record { text = lines_text (codes "sheet 2" ∷ codes "base = 1" ∷ codes "x = 1" ∷ codes "issuer 1" ∷ codes "y = 2" ∷ codes "B1|1|1|0" ∷ []); from = 0; line = 1 }) ≡ lines_text (codes "line 3: unknown x" ∷ codes "line 5: unknown y" ∷ [])
unfolding unknown_from unknown_from_issuer section_in told_of_section unknown_in_sheet unknown_in_issuer with_table with_rows keys_left told_along
    key_name rows_in rows_under is_utf8 chars lib.Utf8.encode parse_document lines line expression skip_bom skip_from skip_ws header_key key_equals
    key_after simple_key val atom quoted one_line body special define along_header along_dots at_key unquoted word_len word_value number
    underscore_fits plain_number decimal_number scan_numeral digits
of_both_sections = refl

-- an issuer without a sheet
of_an_issuer_alone : unknown_from (record { text = lines_text (codes "issuer 1" ∷ codes "y = 2" ∷ codes "B1|1|1|0" ∷ []); from = 0; line = 1 }) ≡ lines_text (codes "line 2: unknown y" ∷ [])
unfolding unknown_from unknown_from_issuer section_in told_of_section unknown_in_sheet unknown_in_issuer with_table with_rows keys_left told_along
    key_name rows_in rows_under is_utf8 chars lib.Utf8.encode parse_document lines line expression skip_bom skip_from skip_ws header_key key_equals
    key_after simple_key val atom quoted one_line body special define along_header along_dots at_key unquoted word_len word_value number
    underscore_fits plain_number decimal_number scan_numeral digits
of_an_issuer_alone = refl

-- a batch alone
of_no_section : unknown_from (record { text = lines_text (codes "B1|1|1|0" ∷ []); from = 0; line = 1 }) ≡ lines_text ([])
unfolding unknown_from unknown_from_issuer section_in told_of_section unknown_in_sheet unknown_in_issuer with_table with_rows keys_left told_along
    key_name rows_in rows_under is_utf8 chars lib.Utf8.encode parse_document lines line expression skip_bom skip_from skip_ws header_key key_equals
    key_after simple_key val atom quoted one_line body special define along_header along_dots at_key unquoted word_len word_value number
    underscore_fits plain_number decimal_number scan_numeral digits
of_no_section = refl
