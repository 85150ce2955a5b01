use Rattle.std.proofs.Common.{rules}
use Rattle.counted_io.proofs.counting.is_failed_write.Goals as goal

pub returns-then-taken-eq0 : goal.returns-then-taken-eq0
returns-then-taken-eq0 c = search rules

pub returns-in-Err : goal.returns-in-Err
returns-in-Err c = search rules
