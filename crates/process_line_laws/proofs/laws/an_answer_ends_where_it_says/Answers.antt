use Rattle.process_line_laws.proofs.FirstAnswers.{answer_first, kept_is_whole, refused_first}
use Rattle.process_line_laws.proofs.laws.an_answer_ends_where_it_says.Goals as goal

pub returns-clause-first : goal.returns-clause-first
returns-clause-first c = answer_first

pub returns-clause-kept : goal.returns-clause-kept
returns-clause-kept c = kept_is_whole

pub returns-clause-refused : goal.returns-clause-refused
returns-clause-refused c = refused_first
