use Rattle.std.proofs.Common.{All, map, take}
use Rattle.std.specs.Arc.{arc_value}
use Rattle.batch_store.specs.Limits.{IsCut}
use Rattle.node_kept.proofs.kept.know_cuts.Given as goal

-- The first cuts are known.
abbrev pub invariant-loop-cut : goal.invariant-loop-cut
invariant-loop-cut l = All IsCut (map arc_value (take l.cut-index l.cuts))
