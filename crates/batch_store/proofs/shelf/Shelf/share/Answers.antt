-- The first batches are those of the whole row, by other hands.
use Rattle.std.proofs.Common.{◌≡◌, length, min, ap, ◌∙◌, arith}
use Rattle.batch_store.specs.Inner.Shelves.{up_to_seq}
use Rattle.batch_store.proofs.ShareLemmas.{filed_low, shared_shelf}
use Rattle.batch_store.proofs.shelf.Shelf.share.Goals as goal

pub share_filed-requires : goal.share_filed-requires
share_filed-requires c = filed_low c.self.inside.whole c.self.inside.ahead.entries c.self.invariant

pub invariant_of-result : goal.invariant_of-result
invariant_of-result c =
    let whole = c.self.inside.whole in
    let count : min c.len.result c.args.last ≡ min (length whole) c.args.last = omega arith in
    let clones = c.in_ok-whole.ensures in
    (shared_shelf whole c.self.inside.ahead.entries c.args.last c.min-count.result c.in_ok-whole.whole c.in_ok-ahead.ahead.entries c.self.invariant (c.min-count.ensures ∙ count) clones c.in_ok-ahead.ensures).0

pub returns : goal.returns
returns c =
    let whole = c.self.inside.whole in
    let count : min c.len.result c.args.last ≡ min (length whole) c.args.last = omega arith in
    let clones = c.in_ok-whole.ensures in
    let part = shared_shelf whole c.self.inside.ahead.entries c.args.last c.min-count.result c.in_ok-whole.whole c.in_ok-ahead.ahead.entries c.self.invariant (c.min-count.ensures ∙ count) clones c.in_ok-ahead.ensures in
    part.1 ∙ ap (up_to_seq c.args.last) c.self.view_is
