use Rattle.std.proofs.Common.{rules}
use Rattle.schedule_writer.proofs.lines.put_refusal.Goals as goal

pub returns-in-WorldFull : goal.returns-in-WorldFull
returns-in-WorldFull c = search rules
