use Rattle.std.proofs.Common.{◌≡◌, true, take}
use Rattle.metering_model.specs.Cut.{zero_cut}
use Rattle.process_laws.specs.LocalSteps.{are_growing}
use Rattle.group_process.proofs.exporting.has_growing_cuts.Given as goal

abbrev pub invariant-loop-next : goal.invariant-loop-next
invariant-loop-next l = are_growing (zero_cut l.node.agents) (take l.next l.node.node.kept.learned) ≡ true
