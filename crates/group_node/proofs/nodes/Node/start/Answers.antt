use Rattle.std.proofs.Common.{◌≡◌, length, sym, ap, subst, arith, rules}
use Rattle.std.proofs.lemmas.List.{length-replicate}
use Rattle.std.proofs.lemmas.Option.{same_Some}
use Rattle.metering_model.specs.Ballot.{Attempt}
use Rattle.node_kept.specs.Kept.{IsKept}
use Rattle.metering_model.specs.KeptText.{KeptAmong}
use Rattle.group_node.specs.Nodes.{NodeAmong}
use Rattle.group_node.proofs.KeptLemmas.{started_kept}
use Rattle.group_node.proofs.nodes.Node.start.Goals as goal

pub invariant_of-self : goal.invariant_of-self
invariant_of-self c =
    let node = ap (λ (n : NodeAmong). n.node.kept.round) c.self.view_is in
    let kept = ap (λ (k : KeptAmong). k.kept.round) c.kept.view_is in
    let size : length c.new.result.promising ≡ c.self.inside.voters = rw c.new.ensures (length-replicate _ _) in (
      c.self.invariant.0,
      record {
        few = c.self.invariant.1.few;
        kept = started_kept _ _ (subst IsKept (sym c.kept.view_is) c.self.invariant.1.kept) (omega arith);
        attempt = λ a e. subst (λ (x : Attempt). length x.promising ≡ c.self.inside.voters) (same_Some _ _ e) size;
      },
    )

pub returns-clause-ballot : goal.returns-clause-ballot
returns-clause-ballot c = search rules
