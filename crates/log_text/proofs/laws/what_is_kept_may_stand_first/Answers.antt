-- Each increment keeps the limits of what has a text.
use Rattle.log_text.proofs.KeptFirst.{log_has_text, read_alike}
use Rattle.log_text.proofs.laws.what_is_kept_may_stand_first.Goals as goal

pub returns-clause-has : goal.returns-clause-has
returns-clause-has c = log_has_text

pub returns-clause-alike : goal.returns-clause-alike
returns-clause-alike c = read_alike
