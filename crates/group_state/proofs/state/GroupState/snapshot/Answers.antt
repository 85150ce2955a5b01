use Rattle.std.proofs.Common.{subst, sym}
use Rattle.std.specs.Arc.{arc_value}
use Rattle.group_state.specs.Inner.Allowed.{MayTake}
use Rattle.group_state.proofs.Changes.{may_take}
use Rattle.group_state.proofs.state.GroupState.snapshot.Goals as goal

pub take_snapshot-requires : goal.take_snapshot-requires
take_snapshot-requires c =
    let w = c.args.self.now in
    let n = c.in-Some.asked.now in
    let to = arc_value c.in-Ok.found.1.now in
    let may = may_take w c.args.node c.args.period n to c.requires.reached c.in-Some.ensures.member (sym c.in-Some.ensures.node) c.in-Ok.ensures.whole.0 c.in-Ok.ensures.whole.1 in
    subst (λ p. MayTake w.sheet w.agents p to n) (sym c.in-Ok.ensures.found.0) may
