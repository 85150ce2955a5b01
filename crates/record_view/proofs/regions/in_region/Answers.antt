use Rattle.std.proofs.Common.{sym, ap}
use Rattle.record_view.specs.Inner.LineFields.{in_region}
use Rattle.record_view.proofs.regions.in_region.Goals as goal

pub returns-in-Reading : goal.returns-in-Reading
returns-in-Reading c = ap (in_region c.args.region) (sym c.in-Reading.is)
