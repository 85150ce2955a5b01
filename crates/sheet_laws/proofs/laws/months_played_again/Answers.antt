use Rattle.sheet_laws.proofs.PlayedAgain.{shown_again, alike_again}
use Rattle.sheet_laws.proofs.laws.months_played_again.Goals as goal

pub returns-clause-shown_again : goal.returns-clause-shown_again
returns-clause-shown_again c = shown_again

pub returns-clause-again : goal.returns-clause-again
returns-clause-again c = alike_again
