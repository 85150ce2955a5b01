use Rattle.std.proofs.Common.{refl}
use Rattle.command_line.proofs.runs.ended.Goals as goal

pub returns-in-Ok : goal.returns-in-Ok
returns-in-Ok g c = record { ending = rw c.in-Ok.is (refl, refl) }

pub returns-in-Err : goal.returns-in-Err
returns-in-Err g c = record { ending = rw c.in-Err.is (c.ending.ensures.status, c.ending.ensures.told) }
