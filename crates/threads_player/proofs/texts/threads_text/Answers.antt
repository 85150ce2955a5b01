use Rattle.std.proofs.lemmas.Result.{on_ok_weaker}
use Rattle.threads_player.proofs.texts.threads_text.Goals as goal

pub returns-clause-written : goal.returns-clause-written
returns-clause-written g c = on_ok_weaker c.write_report.result (λ appended. (_, c.in_ok-run.ensures.run, appended)) c.write_report.ensures.written

pub returns-clause-prefix : goal.returns-clause-prefix
returns-clause-prefix g c = λ is. (_, c.in_ok-run.ensures.run, c.write_report.ensures.prefix is)

pub returns-clause-refused : goal.returns-clause-refused
returns-clause-refused g c = λ is. absurd (c.write_report.ensures.unrefused is)

pub returns-clause-kept : goal.returns-clause-kept
returns-clause-kept g c = c.write_report.ensures.kept

pub returns-clause-writes : goal.returns-clause-writes
returns-clause-writes g c = c.write_report.ensures.writes
