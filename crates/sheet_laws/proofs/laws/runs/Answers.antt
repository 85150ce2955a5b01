use Rattle.sheet_laws.proofs.LeftOut.{left_out}
use Rattle.sheet_laws.proofs.TwoRuns.{same_replies, same_world, still_priced}
use Rattle.sheet_laws.proofs.laws.runs.Goals as goal

pub returns-clause-replies : goal.returns-clause-replies
returns-clause-replies c = same_replies

pub returns-clause-world : goal.returns-clause-world
returns-clause-world c = same_world

pub returns-clause-priced : goal.returns-clause-priced
returns-clause-priced c = still_priced

pub returns-clause-left_out : goal.returns-clause-left_out
returns-clause-left_out c = left_out
