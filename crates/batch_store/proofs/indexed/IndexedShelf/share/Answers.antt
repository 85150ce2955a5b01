use Rattle.std.proofs.Common.{◌≡◌, subst, rules}
use Rattle.batch_store.specs.Inner.Amenders.{IsIndexOf}
use Rattle.batch_store.specs.Inner.Shelves.{up_to_seq}
use Rattle.batch_store.proofs.AmenderLemmas.{index_part}
use Rattle.batch_store.proofs.indexed.IndexedShelf.share.Goals as goal

pub invariant_of-result : goal.invariant_of-result
invariant_of-result c =
    let part : up_to_seq c.args.last c.self.inside.shelf ≡ c.in_ok-shelf.shelf = search rules in
    let same : c.self.inside.amenders ≡ c.in_ok-amenders.amenders = search rules in
    subst (λ h. IsIndexOf h c.in_ok-amenders.amenders) part (subst (λ pairs. IsIndexOf (up_to_seq c.args.last c.self.inside.shelf) pairs) same (index_part c.args.last c.self.inside.shelf c.self.inside.amenders c.self.invariant))
