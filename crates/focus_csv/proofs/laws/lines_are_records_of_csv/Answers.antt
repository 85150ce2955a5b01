use Rattle.std.proofs.Common.{◌∙◌, arith}
use Rattle.metering_model.specs.File.{fields_of_row}
use Rattle.focus_csv.specs.Columns.{column_names}
use Rattle.focus_csv.proofs.CsvText.{line_is}
use Rattle.focus_csv.proofs.ReadBack.{names_line}
use Rattle.focus_csv.proofs.laws.lines_are_records_of_csv.Goals as goal

pub returns-clause-header : goal.returns-clause-header
returns-clause-header c = line_is column_names (omega arith) ∙ names_line

pub returns-clause-line : goal.returns-clause-line
returns-clause-line c = λ r. line_is (fields_of_row r) (omega arith)
