use Rattle.row_laws.proofs.FileLaws.{texts_add_up}
use Rattle.row_laws.proofs.laws.texts_add_up_to_their_readings.Goals as goal

pub returns : goal.returns
returns c = λ sheet issuer h agents cuts ok grows limits names. texts_add_up sheet issuer h ok limits names agents cuts grows
