use Rattle.std.proofs.Common.{◌≡◌, replicate}
use Rattle.metering_model.specs.World.{new_kept, wake}
use Rattle.group_state.proofs.state.new_nodes.Given as goal

-- So many nodes are made so far.
abbrev pub invariant-loop : goal.invariant-loop
invariant-loop l = l.made.items ≡ replicate l.counter (record { voters = l.voters; agents = l.agents; node = wake new_kept })
