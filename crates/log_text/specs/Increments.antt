-- What a step adds.
use Rattle.batch_store.specs.Batches.{batch_of}
use Rattle.log_text.specs.LogText as model
use Rattle.log_text.specs.declared.increments.Increment.{Increment}
use Rattle.log_text.specs.declared.increments.Increment.TheVariants.{Round, Ballots, Learned, Batch}

abbrev pub increment_of : Increment → model.Increment
increment_of (Round round) = model.BeginsRound round
increment_of (Ballots period acceptor) = model.SetsBallots period acceptor.now
increment_of (Learned period cut) = model.Learns period cut.now
increment_of (Batch batch) = model.Takes (batch_of batch.now)
