use Rattle.process_line_laws.proofs.ReadAnswers.{kept_counted, sent_counted}
use Rattle.process_line_laws.proofs.laws.what_is_kept_or_sent_has_the_lines_that_are_told.Goals as goal

pub returns-clause-kept : goal.returns-clause-kept
returns-clause-kept c = kept_counted

pub returns-clause-sent : goal.returns-clause-sent
returns-clause-sent c = sent_counted
