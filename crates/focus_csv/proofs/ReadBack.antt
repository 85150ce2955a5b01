-- What the usual reader of CSV gives of a file.
use Rattle.std.proofs.Common.{◌≡◌, ℕ, zero, suc, ◌+◌, ◌≤◌, List, [], ◌∷◌, ◌++◌, length, map, refl, sym, ap, ap₂, ◌∙◌, append_assoc, arith}
use Rattle.std.specs.List.{flat_map, join_with_byte}
use Rattle.std.proofs.lemmas.List.{length-map, length-append}
use Rattle.csv.specs.Machine.{next_record}
use Rattle.csv.specs.Reading.{default_config, records, records_from, strip_bom}
use Rattle.csv.specs.Writing.{read_back}
use Rattle.csv.specs.declared.parser.State.TheVariants as st
use Rattle.csv.proofs.RoundTrip.{rows_text, read-write}
use Rattle.metering_model.specs.Row.{Row}
use Rattle.metering_model.specs.File.{file, fields_of_row, header_line, quoted, row_text}
use Rattle.focus_csv.specs.Columns.{column_names}
use Rattle.focus_csv.specs.Inner.Lines.{line_of}
use Rattle.focus_csv.proofs.CsvText.{line_is}

-- however many records the reader is asked for, it gives those that were written and no more
reads_all : (lines : List (List (List ℕ))) (most : ℕ) → length lines ≤ most
    → records_from default_config most st.StartRecord (rows_text lines) ≡ map read_back lines
unfolding records_from rows_text next_record
reads_all [] zero h = refl
reads_all [] (suc n) h = refl
reads_all (l ∷ ls) zero h = absurd (omega arith)
reads_all (l ∷ ls) (suc n) h = rw (read-write l (rows_text ls)) (ap (λ t. read_back l ∷ t) (reads_all ls n (omega arith)))

-- ---- a file as the lines of its records

pub names_line : line_of column_names ≡ header_line ++ 10 ∷ []
names_line = refl

rows_lines : (rows : List Row) → rows_text (map fields_of_row rows) ≡ flat_map row_text rows
unfolding rows_text
rows_lines [] = refl
rows_lines (r ∷ rs) = ap₂ ◌++◌ (line_is (fields_of_row r) (omega arith)) (rows_lines rs)

file_lines : (rows : List Row) → rows_text (column_names ∷ map fields_of_row rows) ≡ file rows
unfolding rows_text
file_lines rows =
    ap₂ ◌++◌ (line_is column_names (omega arith) ∙ names_line) (rows_lines rows)
    ∙ append_assoc header_line (10 ∷ []) (flat_map row_text rows)

same_rows : (rows : List Row) → map read_back (map fields_of_row rows) ≡ map fields_of_row rows
same_rows [] = refl
same_rows (r ∷ rs) = ap (λ t. fields_of_row r ∷ t) (same_rows rs)

-- ---- a file has a byte at least for each record

row_has_byte : (r : Row) → 1 ≤ length (row_text r)
row_has_byte r = omega (arith, length-append (join_with_byte 44 (map quoted (fields_of_row r))) (10 ∷ []))

rows_have_bytes : (rows : List Row) → length rows ≤ length (flat_map row_text rows)
rows_have_bytes [] = omega arith
rows_have_bytes (r ∷ rs) = omega (arith, length-append (row_text r) (flat_map row_text rs), row_has_byte r, rows_have_bytes rs)

room : (rows : List Row) → length (column_names ∷ map fields_of_row rows) ≤ length (file rows) + 1
room rows = omega (arith, length-map rows fields_of_row, rows_have_bytes rows, length-append header_line (10 ∷ flat_map row_text rows))

pub file_read : (rows : List Row) → records default_config (file rows) ≡ column_names ∷ map fields_of_row rows
file_read rows =
    ap (λ t. records_from default_config (length (file rows) + 1) st.StartRecord t) (sym (file_lines rows))
    ∙ reads_all (column_names ∷ map fields_of_row rows) (length (file rows) + 1) (room rows)
    ∙ ap (λ t. column_names ∷ t) (same_rows rows)

pub no_mark : (rows : List Row) → strip_bom (file rows) ≡ file rows
unfolding strip_bom
no_mark rows = refl
