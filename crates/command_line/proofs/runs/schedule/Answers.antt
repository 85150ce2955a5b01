use Rattle.std.proofs.Common.{Err, ap, inl, inr}
use Rattle.command_line.proofs.ScheduleRuns.{schedule_comes_to}
use Rattle.command_line.proofs.runs.schedule.Goals as goal

pub returns-in-Err-clause-outcome : goal.returns-in-Err-clause-outcome
returns-in-Err-clause-outcome g c =
    let told = c.in-Err.ensures in
    rw c.fault_of_schedule.ensures
    (schedule_comes_to g.W.Sink c.args.request c.in-Err.fault (g.R.Source.remaining c.args.reader.now) _ _ _ _ told.streams.reads told.streams.writes told.kept
    (λ words is. told.faults.refused words (ap Err is)) (λ is. told.faults.taken (inl (ap Err is))) (λ is. told.faults.taken (inr (ap Err is))) (λ is. told.prefix (ap Err is)))
