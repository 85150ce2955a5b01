use Rattle.focus_csv.proofs.SameTexts.{told_same}
use Rattle.focus_csv.proofs.alike.are_alike.Goals as goal

pub returns : goal.returns
returns c = told_same c.is_same.result c.args.left.now c.args.right.now c.is_same.ensures
