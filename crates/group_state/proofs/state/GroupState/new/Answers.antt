use Rattle.std.proofs.Common.{◌∙◌, ap, refl}
use Rattle.group_state.proofs.Changes.{nodes_in, opening_nodes}
use Rattle.group_state.proofs.state.GroupState.new.Goals as goal

pub returns : goal.returns
returns c =
    let j = c.in_ok-journals.ensures in
    let n = c.in_ok-made.ensures in
    let e = ap nodes_in n ∙ opening_nodes _ c.args.voters c.args.agents in
    let p = c.new-2.ensures.items in
    rw (j, e, p) refl
