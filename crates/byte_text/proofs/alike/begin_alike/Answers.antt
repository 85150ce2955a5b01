use Rattle.byte_text.proofs.SameTexts.{told_by_mask}
use Rattle.byte_text.proofs.alike.begin_alike.Goals as goal

pub returns : goal.returns
returns g c = told_by_mask g.row.LANES c.args.left.now c.args.right.now c.requires.lanes c.requires.left c.requires.right
