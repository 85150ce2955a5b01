-- The lines are put, and then the pieces let go.
use Rattle.focus_csv.proofs.whole.put_all.Goals as goal

pub returns : goal.returns
returns c = c.put_lines-result.ensures.put
