use Rattle.std.proofs.Common.{rules}
use Rattle.counted_io.proofs.counting.Counted.note.Goals as goal

pub returns-clause-count : goal.returns-clause-count
returns-clause-count g c = search rules
