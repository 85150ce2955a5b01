use Rattle.std.proofs.Common.{rules}
use Rattle.fault_lines.proofs.ahead.is_ahead.Goals as goal

pub returns-in-Some : goal.returns-in-Some
returns-in-Some c = search rules
