use Rattle.std.proofs.Common.{◌≡◌, Ok, Err, ap, arith}
use Rattle.std.proofs.lemmas.Bool.Decides.{nat_tests}
use Rattle.command_line.proofs.CheckRuns.{check_comes_to, says}
use Rattle.command_line.proofs.runs.check.Goals as goal

pub returns-in-Ok-eq0-clause-outcome : goal.returns-in-Ok-eq0-clause-outcome
returns-in-Ok-eq0-clause-outcome g c =
    let told = c.in-Ok-eq0 in
    let zero : told.field-0 ≡ 0 = grind (arith, nat_tests, told.field-0-test) in
    record {
      done = (told.ensures.ahead (ap Ok zero), told.ensures.streams.end (ap Ok zero));
      calm = (told.ensures.streams.reads, told.ensures.streams.writes);
    }

pub returns-in-Ok-clause-outcome : goal.returns-in-Ok-clause-outcome
returns-in-Ok-clause-outcome g c =
    let told = c.in-Ok.ensures in
    says g.W.Sink c.args.kind c.in-Ok.count (g.R.Source.remaining c.args.reader.now) _ _ _ _ c.in-Ok.count-test.1 told.streams.reads told.streams.writes told.said

pub returns-in-Err-clause-outcome : goal.returns-in-Err-clause-outcome
returns-in-Err-clause-outcome g c =
    let told = c.in-Err.ensures in
    check_comes_to g.W.Sink c.args.kind c.in-Err.fault (g.R.Source.remaining c.args.reader.now) _ _ _ _ told.streams.reads told.streams.writes told.kept
    (λ bad is. told.refuses.no_section bad (ap Err is)) (λ refusal is. told.refuses.no_refusal refusal (ap Err is)) (λ is. told.prefix (ap Err is))
