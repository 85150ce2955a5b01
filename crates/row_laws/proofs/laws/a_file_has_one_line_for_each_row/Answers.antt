use Rattle.row_laws.proofs.FileLaws.{one_line_each}
use Rattle.row_laws.proofs.laws.a_file_has_one_line_for_each_row.Goals as goal

pub returns : goal.returns
returns c = λ sheet issuer h period from to ok limits names. one_line_each sheet issuer h ok limits names period from to
