use Rattle.std.proofs.Common.{◌≡◌, ◌++◌, map, take, flat_map}
use Rattle.std.specs.Arc.{arc_value}
use Rattle.metering_model.specs.KeptText.{cut_text}
use Rattle.node_kept.proofs.writing.put_cuts.Given as goal

-- The first cuts are put.
abbrev pub invariant-loop-cut : goal.invariant-loop-cut
invariant-loop-cut l = l.text.items ≡ l.fn.text.items ++ flat_map cut_text (map arc_value (take l.cut-index l.cuts))
