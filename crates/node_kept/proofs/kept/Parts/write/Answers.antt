use Rattle.node_kept.proofs.WriteSteps.{store_is_few}
use Rattle.node_kept.proofs.kept.Parts.write.Goals as goal

pub size_of-count-requires : goal.size_of-count-requires
size_of-count-requires c = rw c.batches.ensures (store_is_few _ c.agents-agents.ensures.stored)
