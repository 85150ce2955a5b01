use Rattle.std.proofs.Common.{[], sym, subst}
use Rattle.fault_lines.specs.Ahead.{AreLatest}
use Rattle.fault_lines.proofs.LatestKept.{none_there}
use Rattle.fault_lines.proofs.ahead.LatestDays.none.Goals as goal

pub returns : goal.returns
returns c = subst (λ days. AreLatest days []) (sym c.no_days.ensures) none_there
