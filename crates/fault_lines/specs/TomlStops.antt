-- Where a section that is no TOML stops being it, as far as its tables tell one by one: in the first table that is no TOML by itself, at the
-- first line up to which it is none, if that is among its first ones. A fault that two tables have together, as a name that stands twice, is
-- on no line of one.
use Rattle.std.specs.Prelude.{ℕ, zero, suc, ◌+◌, Bool, ◌&&◌, ◌||◌, nat_le, nat_lt, if◌then◌else◌, List, [], ◌∷◌, ◌++◌, length, take, Option, Some, None, codes}
use Rattle.std.specs.Option.{is_some}
use Rattle.std.specs.Str.{is_utf8}
use Rattle.toml.specs.Parse.{parse_document}
use Rattle.metering_model.specs.BatchReading.{lines_in}
use Rattle.metering_model.specs.Schedule.{lines_text}
use Rattle.metering_model.specs.Transcript.{line, with_number}
use Rattle.sheet_text.specs.declared.faults.IssuerFault.{IssuerFault}
use Rattle.sheet_text.specs.declared.faults.IssuerFault.TheVariants as issuer
use Rattle.sheet_text.specs.declared.faults.SheetFault.{SheetFault}
use Rattle.sheet_text.specs.declared.faults.SheetFault.TheVariants as sheet
use Rattle.answer_words.specs.Words.{issuer_fault_text, sheet_fault_text}
use Rattle.fault_lines.specs.TableLines.{opens_table}

-- whether a text is TOML by itself, as `toml` reads it
abbrev pub is_toml : List ℕ → Bool
is_toml text = is_utf8 text && is_some (parse_document text)

-- so many lines of a table are tried, of so many bytes
abbrev pub most_tried : ℕ
most_tried = 99

abbrev pub most_tried_bytes : ℕ
most_tried_bytes = 65_536

-- The first of the lines, counted from 0, up to which they are no TOML: of so many, from one on.
unfoldable pub stop_among : List (List ℕ) → (k left : ℕ) → Option ℕ
stop_among ls k zero = None
stop_among ls k (suc left) =
    let text = lines_text (take (k + 1) ls) in
    if nat_le (length ls) k || nat_lt most_tried_bytes (length text) then None
    else (if is_toml text then stop_among ls (k + 1) left else Some k)

-- of a table that is none, and begins on line `first`
unfoldable pub stop_in : (first : ℕ) → List ℕ → Option ℕ
stop_in first table = elim (stop_among (lines_in table).lines 0 most_tried) [ Some k ↦ Some (first + k) | None ↦ None ]

-- The number of the line at which the first table that is no TOML stops being it. What stands of the open one begins on line `first`;
-- these are the lines that are left, of which the first is line `n`.
unfoldable pub stop_from : (first : ℕ) (table : List ℕ) (n : ℕ) → List (List ℕ) → Option ℕ
stop_from first table n [] = if is_toml table then None else stop_in first table
stop_from first table n (l ∷ ls) =
    if opens_table l then (if is_toml table then stop_from n (line l) (n + 1) ls else stop_in first table)
    else stop_from first (table ++ line l) (n + 1) ls

-- of the text of a section that opens on a line
abbrev pub toml_stop : ℕ → List ℕ → Option ℕ
toml_stop n text = stop_from (n + 1) [] (n + 1) (lines_in text).lines

abbrev pub stop_words_of : Option ℕ → List ℕ
stop_words_of None = []
stop_words_of (Some k) = with_number (codes " line ") k

unfoldable pub stop_words : ℕ → List ℕ → List ℕ
stop_words n text = stop_words_of (toml_stop n text)

-- ---- behind a fault's words, where the text is no TOML

abbrev pub sheet_stop : ℕ → List ℕ → SheetFault → List ℕ
sheet_stop n text sheet.NotToml = stop_words n text
sheet_stop n text other = []

abbrev pub issuer_stop : ℕ → List ℕ → IssuerFault → List ℕ
issuer_stop n text issuer.NotToml = stop_words n text
issuer_stop n text other = []

-- of the text of a section that opens on a line
abbrev pub sheet_words : ℕ → List ℕ → SheetFault → List ℕ
sheet_words n text fault = sheet_fault_text fault ++ sheet_stop n text fault

abbrev pub issuer_words : ℕ → List ℕ → IssuerFault → List ℕ
issuer_words n text fault = issuer_fault_text fault ++ issuer_stop n text fault
