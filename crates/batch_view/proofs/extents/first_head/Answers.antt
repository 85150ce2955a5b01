use Rattle.std.proofs.Common.{sym}
use Rattle.batch_view.proofs.FirstLemmas.{no_feed, head_found}
use Rattle.batch_view.proofs.extents.first_head.Goals as goal

pub returns-in_err-feed : goal.returns-in_err-feed
returns-in_err-feed c = rw c.from_residual.ensures (no_feed c.args.text.now (sym c.in_err-feed.ensures))

pub returns : goal.returns
returns c = head_found c.args.text.now c.in_ok-feed.feed c.head_of_line.result (sym c.in_ok-feed.ensures) c.head_of_line.ensures
