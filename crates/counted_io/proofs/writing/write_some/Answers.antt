use Rattle.std.proofs.Common.{rules}
use Rattle.counted_io.proofs.writing.write_some.Goals as goal

pub returns-in-Err-clause-some : goal.returns-in-Err-clause-some
returns-in-Err-clause-some g c = search rules

pub returns-in-Err-clause-count : goal.returns-in-Err-clause-count
returns-in-Err-clause-count g c = search rules
