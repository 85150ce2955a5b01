use Rattle.std.proofs.Common.{refl, arith, ap}
use Rattle.group_node.specs.Nodes.{NodeAmong}
use Rattle.group_state.proofs.Changes.{restarted}
use Rattle.group_state.proofs.state.GroupState.restart.Goals as goal

pub returns : goal.returns
returns c =
    let has = c.self.inside.nodes.ok.0 in
    rw (← c.self.view_is)
    (restarted _ c.args.node c.from-2.result c.self.inside.nodes.items c.index_mut-node.result.now c.restart.new.self refl c.from-2.ensures (omega (arith, has)) (rw (← c.from-2.ensures) c.index_mut-node.ensures.value) (ap (λ (n : NodeAmong). n.node) c.restart.ensures))
