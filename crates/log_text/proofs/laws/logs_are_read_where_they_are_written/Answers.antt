-- Reading answers what is kept of a log where the text is its text, and only there.
use Rattle.log_text.proofs.LogLaws.{log_read, log_written}
use Rattle.log_text.proofs.laws.logs_are_read_where_they_are_written.Goals as goal

pub returns-clause-back : goal.returns-clause-back
returns-clause-back c = log_written

pub returns-clause-joined : goal.returns-clause-joined
returns-clause-joined c = log_read
