use Rattle.std.proofs.Common.{◌≡◌, map, take}
use Rattle.std.specs.Arc.{arc_value}
use Rattle.node_kept.proofs.kept.are_same.Given as goal

-- The first cuts are the same.
abbrev pub invariant-loop-index : goal.invariant-loop-index
invariant-loop-index l = map arc_value (take l.index l.one) ≡ map arc_value (take l.index l.two)
