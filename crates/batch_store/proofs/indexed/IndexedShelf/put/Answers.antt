use Rattle.std.proofs.Common.{◌≡◌, ap, sym, subst, refl, ◌∙◌, rules}
use Rattle.std.specs.Arc.{arc_value}
use Rattle.batch_view.specs.Batches.{batch_of}
use Rattle.batch_view.specs.Kept.{AreAmendmentsOf}
use Rattle.batch_store.specs.Inner.Amenders.{AreListed}
use Rattle.batch_store.specs.Inner.Shelves.{Rises, at_seq}
use Rattle.batch_store.proofs.AmenderLemmas.{index_after, index_after_put}
use Rattle.batch_store.proofs.ShelfLemmas.{put_found}
use Rattle.batch_store.proofs.indexed.IndexedShelf.put.Goals as goal

pub returns-then-is_some-clause-batches : goal.returns-then-is_some-clause-batches
returns-then-is_some-clause-batches c =
    let seq : c.seq-seq.result ≡ (batch_of (arc_value c.args.batch)).seq = search rules in
    let same : c.self.inside.shelf ≡ c.args.self.now = c.self.view_is in
    put_found c.args.self.now (batch_of (arc_value c.args.batch)) c.seq-seq.result c.get.result (subst (λ h. Rises 1 h) same c.get.ensures.rises) c.requires seq (c.get.ensures.batch ∙ ap (λ h. at_seq h c.seq-seq.result) same) (sym c.is_some.ensures ∙ c.if-is_some.true)

pub invariant_of-self : goal.invariant_of-self
invariant_of-self c = index_after c.self.inside.shelf c.self.inside.shelf c.self.inside.amenders c.list.new.self c.list.ensures.kept c.self.invariant refl

pub invariant_of-self-2 : goal.invariant_of-self-2
invariant_of-self-2 c =
    let batch = batch_of (arc_value c.args.batch) in
    let seq : c.seq-seq.result ≡ (batch_of (arc_value c.args.batch)).seq = search rules in
    let are = subst (λ bytes. AreAmendmentsOf (batch_of bytes) c.amendments.result.now) c.deref-2.ensures c.amendments.ensures in
    let listed = subst (λ by. AreListed by c.amendments.result.now c.list.new.self) seq c.in_ok-list.ensures.listed in
    index_after_put c.put.result c.self.inside.shelf c.put.new.self batch c.amendments.result.now c.self.inside.amenders c.list.new.self are.all c.list.ensures.kept listed c.self.invariant c.put.ensures.batches c.put.ensures.kept
