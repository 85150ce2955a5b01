use Rattle.std.proofs.Common.{map}
use Rattle.std.specs.Arc.{arc_value}
use Rattle.node_kept.proofs.ReadSteps.{AreReadSoFar}
use Rattle.node_kept.proofs.reading.read_cuts.Given as goal

-- The first cuts are read.
abbrev pub invariant-loop-index : goal.invariant-loop-index
invariant-loop-index l = AreReadSoFar l.text 2 l.agents l.count l.index (map arc_value l.cuts.items) l.rest
