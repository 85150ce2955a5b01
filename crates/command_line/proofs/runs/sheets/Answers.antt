use Rattle.std.proofs.Common.{Err, ap}
use Rattle.command_line.proofs.SheetsRuns.{sheets_come_to}
use Rattle.command_line.proofs.runs.sheets.Goals as goal

pub returns-in-Err-clause-outcome : goal.returns-in-Err-clause-outcome
returns-in-Err-clause-outcome g c =
    let told = c.in-Err.ensures in
    rw c.fault_of_sheets.ensures
    (sheets_come_to g.W.Sink c.args.asked c.in-Err.fault (g.R.Source.remaining c.args.reader.now) _ _ _ _ told.streams.reads told.streams.writes told.kept
    (λ is. told.unlike (ap Err is)) (λ bad is. told.faults.section bad (ap Err is)) (λ refusal is. told.faults.unrefused refusal (ap Err is)) (λ is. told.faults.plain_memory (ap Err is)) (λ is. told.prefix (ap Err is)))
