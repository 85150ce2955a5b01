-- The steps in which TOML, days and numbers are read, passed on: worked examples compute by unfolding them.
unfoldable pub use Rattle.std.specs.Float.Numeral.{scan_numeral}
unfoldable pub use Rattle.jiff_core.specs.Calendar.{days_from_civil, day_count, days_of_years, days_of_months}
unfoldable pub use Rattle.metering_model.specs.NumberText.{worth_of}
unfoldable pub use Rattle.toml_parser.specs.Lexical.{skip_ws, skip_from}
unfoldable pub use Rattle.toml_parser.specs.Strings.{hex_escape, escape_char, escape, special, body, one_line, quoted, simple_key, key_after}
unfoldable pub use Rattle.toml_parser.specs.Numbers.{underscore_fits, decimal_number, plain_number, number, word_value, word_len, unquoted}
unfoldable pub use Rattle.toml.specs.Tables.{along_header, along_dots, at_key, define}
unfoldable pub use Rattle.toml.specs.Parse.{key_equals, items, val, atom, header_key, expression, line, lines, skip_bom, parse_document}
