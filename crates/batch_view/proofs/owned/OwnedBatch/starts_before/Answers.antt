use Rattle.std.proofs.Common.{◌∙◌, sym}
use Rattle.batch_view.proofs.owned.OwnedBatch.starts_before.Goals as goal

pub returns : goal.returns
returns c = rw (← c.self.view_is) (c.is_before.ensures ∙ sym (c.self.invariant.1.starts c.args.moment))
