-- At which lines tables stop being TOML. The sections open on line 4, so their first line is line 5.
use Rattle.std.proofs.Common.{◌≡◌, [], ◌∷◌, refl, codes}
use Rattle.std.specs.Str.{is_utf8, chars}
use Rattle.std.specs.Fmt.{digits}
use Rattle.metering_model.specs.Schedule.{lines_text}
use Rattle.sheet_text.proofs.WorkedSteps.{scan_numeral, skip_ws, skip_from, special, body, one_line, quoted, simple_key, key_after, underscore_fits}
use Rattle.sheet_text.proofs.WorkedSteps.{decimal_number, plain_number, number, word_value, word_len, unquoted, along_header, along_dots, at_key}
use Rattle.sheet_text.proofs.WorkedSteps.{define, key_equals, val, atom, header_key, expression, line, lines, skip_bom, parse_document}
use Rattle.fault_lines.specs.TomlStops.{stop_among, stop_from, stop_in, stop_words}

at_the_top : stop_words 4 (lines_text (codes "a = 1" ∷ codes "b =" ∷ codes "[c]" ∷ codes "d = 1" ∷ [])) ≡ codes " line 6"
unfolding stop_words stop_from stop_in stop_among is_utf8 chars lib.Utf8.encode parse_document lines line expression skip_bom skip_from skip_ws
    header_key key_equals key_after simple_key val atom quoted one_line body special define along_header along_dots at_key unquoted word_len
    word_value number underscore_fits plain_number decimal_number scan_numeral digits
at_the_top = refl

-- of the first table that is none, and in the whole input
in_the_second_table : stop_words 4 (lines_text (codes "a = 1" ∷ codes "[b]" ∷ codes "c = 2" ∷ codes "d = e" ∷ codes "[f]" ∷ codes "g =" ∷ [])) ≡ codes " line 8"
unfolding stop_words stop_from stop_in stop_among is_utf8 chars lib.Utf8.encode parse_document lines line expression skip_bom skip_from skip_ws
    header_key key_equals key_after simple_key val atom quoted one_line body special define along_header along_dots at_key unquoted word_len
    word_value number underscore_fits plain_number decimal_number scan_numeral digits
in_the_second_table = refl

-- a key that stands twice stops at its second line
a_key_that_stands_twice : stop_words 4 (lines_text (codes "a = 1" ∷ codes "[b]" ∷ codes "c = 2" ∷ codes "c = 3" ∷ [])) ≡ codes " line 8"
unfolding stop_words stop_from stop_in stop_among is_utf8 chars lib.Utf8.encode parse_document lines line expression skip_bom skip_from skip_ws
    header_key key_equals key_after simple_key val atom quoted one_line body special define along_header along_dots at_key unquoted word_len
    word_value number underscore_fits plain_number decimal_number scan_numeral digits
a_key_that_stands_twice = refl

a_table_that_does_not_end : stop_words 4 (lines_text (codes "a = 1" ∷ codes "[b" ∷ codes "c = 2" ∷ [])) ≡ codes " line 6"
unfolding stop_words stop_from stop_in stop_among is_utf8 chars lib.Utf8.encode parse_document lines line expression skip_bom skip_from skip_ws
    header_key key_equals key_after simple_key val atom quoted one_line body special define along_header along_dots at_key unquoted word_len
    word_value number underscore_fits plain_number decimal_number scan_numeral digits
a_table_that_does_not_end = refl

-- a line too many, as of a section that counts too many
a_foreign_line : stop_words 4 (lines_text (codes "a = 1" ∷ codes "issuer 7" ∷ [])) ≡ codes " line 6"
unfolding stop_words stop_from stop_in stop_among is_utf8 chars lib.Utf8.encode parse_document lines line expression skip_bom skip_from skip_ws
    header_key key_equals key_after simple_key val atom quoted one_line body special define along_header along_dots at_key unquoted word_len
    word_value number underscore_fits plain_number decimal_number scan_numeral digits
a_foreign_line = refl

-- of two tables that are TOML each no line is told
two_tables_of_a_name : stop_words 4 (lines_text (codes "[a]" ∷ codes "[a]" ∷ [])) ≡ []
unfolding stop_words stop_from stop_in stop_among is_utf8 chars lib.Utf8.encode parse_document lines line expression skip_bom skip_from skip_ws
    header_key key_equals key_after simple_key val atom quoted one_line body special define along_header along_dots at_key unquoted word_len
    word_value number underscore_fits plain_number decimal_number scan_numeral digits
two_tables_of_a_name = refl

no_fault : stop_words 4 (lines_text (codes "a = 1" ∷ codes "[b]" ∷ [])) ≡ []
unfolding stop_words stop_from stop_in stop_among is_utf8 chars lib.Utf8.encode parse_document lines line expression skip_bom skip_from skip_ws
    header_key key_equals key_after simple_key val atom quoted one_line body special define along_header along_dots at_key unquoted word_len
    word_value number underscore_fits plain_number decimal_number scan_numeral digits
no_fault = refl
