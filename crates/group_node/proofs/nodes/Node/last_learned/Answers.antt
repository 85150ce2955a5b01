-- The last of the cuts that are kept.
use Rattle.std.proofs.Common.{ap, ◌∙◌, None}
use Rattle.std.specs.List.{last_or}
use Rattle.metering_model.specs.KeptText.{KeptAmong}
use Rattle.group_node.specs.Nodes.{NodeAmong}
use Rattle.group_node.proofs.LastCut.{last_seen}
use Rattle.group_node.proofs.nodes.Node.last_learned.Goals as goal

pub returns-clause-cut : goal.returns-clause-cut
returns-clause-cut c =
    let learned = ap (λ (k : KeptAmong). k.kept.learned) c.kept.view_is ∙ ap (λ (n : NodeAmong). n.node.kept.learned) c.self.view_is in
    rw (c.last.ensures.value, last_seen, c.deref.ensures.value) (ap (λ cuts. last_or None cuts) learned)
