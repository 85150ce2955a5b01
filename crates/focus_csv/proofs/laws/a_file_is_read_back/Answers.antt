use Rattle.focus_csv.proofs.ReadBack.{file_read, no_mark}
use Rattle.focus_csv.proofs.laws.a_file_is_read_back.Goals as goal

pub returns-clause-unmarked : goal.returns-clause-unmarked
returns-clause-unmarked c = λ rows. no_mark rows

pub returns-clause-read : goal.returns-clause-read
returns-clause-read c = λ rows. file_read rows
