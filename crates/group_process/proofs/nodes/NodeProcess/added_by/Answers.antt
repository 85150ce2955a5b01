use Rattle.std.proofs.Common.{◌≡◌, ap, subst, ◌∙◌, Ok}
use Rattle.std.specs.Arc.{arc_value}
use Rattle.metering_model.specs.BatchReading.{batch_in}
use Rattle.metering_model.proofs.BatchLaws.{IsWellFormed-read}
use Rattle.group_events.specs.Batches.{batch_of}
use Rattle.group_process.specs.Selves.{NodeSelf}
use Rattle.group_process.proofs.nodes.NodeProcess.added_by.Goals as goal

pub returns-in-Batch-clause-parts : goal.returns-in-Batch-clause-parts
returns-in-Batch-clause-parts c =
    let b = arc_value c.in-Batch.batch in
    rw c.in-Batch.is (IsWellFormed-read b (batch_of b) (subst (λ t. batch_in t ≡ Ok (batch_of t)) c.deref.ensures c.bytes.ensures.batch))

pub returns-in-Accept-clause-likely : goal.returns-in-Accept-clause-likely
returns-in-Accept-clause-likely c =
    let at = c.in-Accept in
    let kept = c.acceptor.ensures ∙ ap (λ (n : NodeSelf). n.node.kept.acceptor) c.self.view_is in
    let told = rw (kept, c.deref-in-Accept-2.ensures) at c.added_by_vote.ensures in
    rw at.is told
