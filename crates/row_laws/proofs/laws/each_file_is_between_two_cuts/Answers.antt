use Rattle.row_laws.proofs.EachFile.{each_file}
use Rattle.row_laws.proofs.laws.each_file_is_between_two_cuts.Goals as goal

pub returns : goal.returns
returns c = each_file
