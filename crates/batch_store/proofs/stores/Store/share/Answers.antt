use Rattle.std.proofs.Common.{◌+◌, sym, ap, subst, ◌∙◌, arith}
use Rattle.batch_store.specs.Inner.Shelves.{up_to_seq, AreShelves}
use Rattle.batch_store.proofs.ShelvesLemmas.{AreShared, share_more, share_all}
use Rattle.batch_store.proofs.stores.Store.share.Goals as goal

pub loop-index-preserved : goal.loop-index-preserved
loop-index-preserved c =
    let xs = c.deref-shelf-items.result.now in
    let are = subst (AreShelves 1) (sym c.deref-shelf-items.ensures.value) c.self.invariant.of_agents in
    let part = c.in_ok-share.ensures ∙ ap (λ last. up_to_seq last c.shelf-item.result) c.get.ensures.value in
    let more = share_more c.args.upto.now xs c.loop-index.shelves.items c.loop-index.index c.shelf-item.result c.in_ok-share.field-0 are (omega arith) c.shelf-item.is part c.loop-index.invariant in
    subst (λ ys. AreShared c.args.upto.now xs ys (c.loop-index.index + 1)) (sym c.in_ok-push.ensures.items) more

pub invariant_of-result : goal.invariant_of-result
invariant_of-result c =
    let xs = c.self.inside.shelves.items in
    let so = subst (λ zs. AreShared c.args.upto.now zs c.loop-index.shelves.items c.loop-index.index) c.deref-shelf-items.ensures.value c.loop-index.invariant in
    (share_all c.args.upto.now xs c.loop-index.shelves.items c.args.self.now c.loop-index.index c.self.view_is c.self.invariant (omega arith) (omega arith) so).0

pub returns : goal.returns
returns c =
    let xs = c.self.inside.shelves.items in
    let so = subst (λ zs. AreShared c.args.upto.now zs c.loop-index.shelves.items c.loop-index.index) c.deref-shelf-items.ensures.value c.loop-index.invariant in
    (share_all c.args.upto.now xs c.loop-index.shelves.items c.args.self.now c.loop-index.index c.self.view_is c.self.invariant (omega arith) (omega arith) so).1
