-- The region is given as it was read.
use Rattle.std.proofs.Common.{rules}
use Rattle.record_view.proofs.records.Reading.region.Goals as goal

pub returns : goal.returns
returns c = search rules
