use Rattle.process_line_laws.proofs.Files.{are_made_of, bytes_agree, of_journals}
use Rattle.process_line_laws.proofs.laws.files_in_lines_agree.Goals as goal

pub returns-clause-bytes : goal.returns-clause-bytes
returns-clause-bytes c = bytes_agree

pub returns-clause-made_of : goal.returns-clause-made_of
returns-clause-made_of c = are_made_of

pub returns-clause-journals : goal.returns-clause-journals
returns-clause-journals c = of_journals
