use Rattle.std.proofs.Common.{rules}
use Rattle.schedule_writer.proofs.judging.with_batch.Goals as goal

pub returns : goal.returns
returns c = record { agents = search rules; last = search rules; within = search rules }
