use Rattle.std.proofs.Common.{rules}
use Rattle.counted_io.proofs.counting.CountedSink.write.Goals as goal

pub returns-clause-appended : goal.returns-clause-appended
returns-clause-appended g c = search rules
