use Rattle.std.proofs.Common.{Err, ap}
use Rattle.command_line.proofs.ThreadsRuns.{threads_come_to}
use Rattle.command_line.proofs.runs.threads.Goals as goal

pub returns-in-Err : goal.returns-in-Err
returns-in-Err g c =
    let told = c.in-Err.ensures in
    record { outcome = λ known reads. threads_come_to g.W.Sink c.args.size c.in-Err.fault known reads _ _ told.writes told.kept (λ is. told.refused (ap Err is)) (λ is. told.prefix (ap Err is)) }
