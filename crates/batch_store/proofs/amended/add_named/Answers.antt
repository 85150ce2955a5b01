use Rattle.std.proofs.Common.{ap, ◌∙◌, arith}
use Rattle.batch_store.proofs.NamedPlaces.{one_more-named, one_more-beyond}
use Rattle.batch_store.proofs.amended.add_named.Goals.{then-amendment-upto+in_ok-push, else-amendment-upto}
use Rattle.batch_store.proofs.amended.add_named.Goals as goal

pub loop-amendment-preserved : goal.loop-amendment-preserved
loop-amendment-preserved c = elim c.if-amendment-upto.branch [
  | then-amendment-upto+in_ok-push w ↦
      ap (λ v. v.items) w.places-is
      ∙ (w.in_ok-push.ensures.items ∙ one_more-named c.args.agent c.args.upto c.args.places.now.items c.loop-amendment.places.items c.args.amendments.now c.loop-amendment.amendment-index c.amendment-item.result (omega arith) c.amendment-item.is c.loop-amendment.invariant (omega arith))
  | else-amendment-upto w ↦
      ap (λ v. v.items) w.places-is
      ∙ one_more-beyond c.args.agent c.args.upto c.args.places.now.items c.loop-amendment.places.items c.args.amendments.now c.loop-amendment.amendment-index c.amendment-item.result (omega arith) c.amendment-item.is c.loop-amendment.invariant (omega arith)
]
