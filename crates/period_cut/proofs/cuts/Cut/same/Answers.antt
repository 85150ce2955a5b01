-- Cuts are the same where their entries are.
use Rattle.std.proofs.Common.{rules}
use Rattle.period_cut.proofs.cuts.Cut.same.Goals as goal

pub returns : goal.returns
returns c = search rules
