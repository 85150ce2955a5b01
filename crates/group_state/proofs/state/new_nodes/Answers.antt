use Rattle.std.proofs.Common.{◌≡◌, ◌++◌, ◌∷◌, [], List, replicate, ap, ◌∙◌, arith}
use Rattle.std.proofs.lemmas.List.{replicate_more}
use Rattle.std.proofs.lemmas.Result.{IfOk-from_err}
use Rattle.metering_model.specs.World.{new_kept, wake}
use Rattle.group_node.specs.Nodes.{NodeAmong}
use Rattle.group_state.proofs.state.new_nodes.Goals as goal

pub loop-preserved : goal.loop-preserved
loop-preserved c =
    let n : NodeAmong = record { voters = c.args.voters; agents = c.args.agents; node = wake new_kept } in
    c.in_ok-add_node.ensures ∙ (ap (λ (ns : List NodeAmong). ns ++ n ∷ []) c.loop.invariant ∙ replicate_more c.loop.counter n)

pub returns-in_err-made : goal.returns-in_err-made
returns-in_err-made c = IfOk-from_err _ _ c.from_residual.ensures.0

pub returns-in_err-add_node : goal.returns-in_err-add_node
returns-in_err-add_node c = IfOk-from_err _ _ c.from_residual-in_err-add_node.ensures.0

pub returns : goal.returns
returns c =
    let count : c.loop.counter ≡ c.args.nodes = omega arith in
    c.loop.invariant ∙ ap (λ n. replicate n (record { voters = c.args.voters; agents = c.args.agents; node = wake new_kept })) count
