-- Reading answers a batch where the text is that batch's, and only there.
use Rattle.metering_model.proofs.BatchLaws.{batch_read, batch_written, IsWellFormed-read}
use Rattle.metering_model.proofs.laws.a_batch_is_read_where_its_parts_are_joined.Goals as goal

pub returns-clause-joined : goal.returns-clause-joined
returns-clause-joined c = λ text b. (batch_read text b, batch_written text b)

pub returns-clause-well_formed : goal.returns-clause-well_formed
returns-clause-well_formed c = IsWellFormed-read
