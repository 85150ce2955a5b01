use Rattle.log_text.proofs.KeptSteps.{same_by}
use Rattle.log_text.proofs.increments.is_same_cut.Goals as goal

pub returns : goal.returns
returns c = same_by c.same.result c.args.one.now c.args.two.now c.same.ensures
