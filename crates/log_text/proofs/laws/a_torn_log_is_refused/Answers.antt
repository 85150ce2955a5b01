-- A piece of a line is no line, and fewer lines than are said are too few.
use Rattle.log_text.proofs.LogsAbove.{torn_below}
use Rattle.log_text.proofs.TornLogs.{torn_at_first, torn_in_head, torn_refused}
use Rattle.log_text.proofs.laws.a_torn_log_is_refused.Goals as goal

pub returns-clause-torn : goal.returns-clause-torn
returns-clause-torn c = torn_refused

pub returns-clause-first : goal.returns-clause-first
returns-clause-first c = torn_at_first

pub returns-clause-begun : goal.returns-clause-begun
returns-clause-begun c = torn_in_head

pub returns-clause-above : goal.returns-clause-above
returns-clause-above c = torn_below
