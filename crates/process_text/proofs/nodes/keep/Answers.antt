use Rattle.std.proofs.Common.{sym, subst, ◌∙◌}
use Rattle.packet_text.proofs.Pieces.{then_ok}
use Rattle.process_laws.specs.LocalSteps.{TellKept}
use Rattle.process_text.specs.Requests.{AsksNode}
use Rattle.process_text.specs.Inner.Written.{AppendsNode}
use Rattle.process_text.proofs.Told.{node_keeps}
use Rattle.process_text.proofs.nodes.keep.Goals as goal

pub returns : goal.returns
returns c =
    then_ok c.put_kept_text.result _ _
    (λ put. subst (λ t. AppendsNode (AsksNode TellKept) c.args.node.now c.args.node.now c.args.text.now.items t) (sym put)
    (node_keeps c.args.node.now c.args.text.now.items c.deref.result.now (c.deref.ensures.value ∙ c.in-Ok.ensures)))
    c.put_kept_text.ensures
