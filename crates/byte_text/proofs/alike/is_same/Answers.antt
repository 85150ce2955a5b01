use Rattle.byte_text.proofs.SameTexts.{as_defined, differ_long}
use Rattle.byte_text.proofs.alike.is_same.Goals as goal

pub returns-then-count-right : goal.returns-then-count-right
returns-then-count-right c = differ_long c.args.left.now c.args.right.now c.if-count-right.true

pub returns : goal.returns
returns c = as_defined c.are_alike.result c.args.left.now c.args.right.now c.are_alike.ensures
