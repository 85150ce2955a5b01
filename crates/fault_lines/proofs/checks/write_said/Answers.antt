use Rattle.std.proofs.Common.{refl}
use Rattle.fault_lines.proofs.checks.write_said.Goals as goal

pub returns-in-Ok : goal.returns-in-Ok
returns-in-Ok g c = record { said = (c.in-Ok.ensures.written, refl); prefix = λ is. absurd (cc); fault = tt; writes = c.in-Ok.ensures.count }

pub returns-in-Err : goal.returns-in-Err
returns-in-Err g c = record { said = tt; prefix = λ is. c.in-Err.ensures.prefix; fault = refl; writes = c.in-Err.ensures.count }
