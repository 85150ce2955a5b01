-- The lines of files, and what their bytes say in the first column, which is BilledCost.
use Rattle.std.specs.Prelude.{ℕ, Bool, ◌==◌, List, map, drop, Option, ℤ, option_map}
use Rattle.std.specs.List.{before_first, flat_map, join_with_byte}
use Rattle.metering_model.specs.NumberText.{number_in}
use Rattle.metering_model.specs.BatchReading.{lines_in, all_some}
use Rattle.metering_model.specs.Row.{Row}
use Rattle.metering_model.specs.File.{quoted, fields_of_row}
use Rattle.metering_model.specs.Totals.{sum_of}

-- a row's line, without its line feed
abbrev pub line_of_row : Row → List ℕ
line_of_row r = join_with_byte 44 (map quoted (fields_of_row r))

-- the lines of a file behind its header line
abbrev pub data_lines : List ℕ → List (List ℕ)
data_lines text = drop 1 (lines_in text).lines

abbrev pub is_comma : ℕ → Bool
is_comma c = c == 44

-- the number, in units of 10^-12, that stands before a line's first comma
abbrev pub first_number : List ℕ → Option ℤ
first_number line = number_in 12 (before_first is_comma line)

-- the sum of these numbers over all lines of all files, if each line has one
abbrev pub sum_of_first_column : List (List ℕ) → Option ℤ
sum_of_first_column texts = option_map (sum_of (λ n. n)) (all_some (map first_number (flat_map data_lines texts)))
