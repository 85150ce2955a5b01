use Rattle.row_laws.proofs.TotalLaws.{totals_of_place}
use Rattle.row_laws.proofs.laws.totals.Goals as goal

pub returns : goal.returns
returns c = λ sheet issuer h agents cuts at r ok grows found. totals_of_place sheet issuer h ok agents cuts grows at r found
