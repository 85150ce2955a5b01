use Rattle.transcript_laws.proofs.CsvLaws.{fields_read, row_read}
use Rattle.transcript_laws.proofs.laws.a_line_read_as_csv_gives_its_fields.Goals as goal

pub returns-clause-line : goal.returns-clause-line
returns-clause-line c = fields_read

pub returns-clause-row : goal.returns-clause-row
returns-clause-row c = row_read
