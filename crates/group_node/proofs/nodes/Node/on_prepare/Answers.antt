use Rattle.std.proofs.Common.{sym, subst, arith}
use Rattle.std.proofs.lemmas.Grind.{elements}
use Rattle.node_kept.specs.Kept.{IsKept}
use Rattle.group_node.proofs.KeptLemmas.{promised_kept}
use Rattle.group_node.proofs.nodes.Node.on_prepare.Goals as goal

pub invariant_of-self-2 : goal.invariant_of-self-2
invariant_of-self-2 c =
    let kept = subst IsKept (sym c.kept.view_is) c.self.invariant.1.kept in (
      c.self.invariant.0,
      record {
        few = c.self.invariant.1.few;
        kept = promised_kept _ c.args.ballot _ c.on_prepare.new.self kept c.requires c.on_prepare.ensures.state;
        attempt = c.self.invariant.1.attempt;
      },
    )

pub returns-clause-does : goal.returns-clause-does
returns-clause-does c = grind (arith, elements) steps 2000000
