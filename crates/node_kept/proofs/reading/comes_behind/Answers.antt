-- Which place comes after which.
use Rattle.std.proofs.Common.{rules}
use Rattle.node_kept.proofs.reading.comes_behind.Goals as goal

pub returns-then-other-place-2 : goal.returns-then-other-place-2
returns-then-other-place-2 c = search rules
