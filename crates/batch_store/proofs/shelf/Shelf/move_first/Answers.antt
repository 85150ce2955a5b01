-- The first of the map stands behind those without a gap, by another hand.
use Rattle.std.proofs.Common.{◌∙◌, arith}
use Rattle.batch_store.proofs.Clones.{first_low, moved_clone}
use Rattle.batch_store.proofs.shelf.Shelf.move_first.Goals as goal

pub push-requires : goal.push-requires
push-requires c = let low = first_low c.self.inside.whole c.self.inside.ahead.entries c.in-Some.seq.now c.in-Some.batch.now c.self.invariant c.in-Some.ensures.first in omega arith

pub invariant_of-self-2 : goal.invariant_of-self-2
invariant_of-self-2 c =
    (moved_clone c.self.inside.whole c.self.inside.ahead.entries c.in-Some-pop_first.field-0 c.pop_first.new.self.entries c.in-Some.seq.now
    c.in-Some.batch.now c.in-Ok.batch c.push.new.self c.self.invariant c.in-Some.ensures.first (omega arith) c.in-Some-pop_first.ensures.removal
    c.in-Ok.ensures c.in-Ok-push.ensures.added).0

pub returns : goal.returns
returns c =
    (moved_clone c.self.inside.whole c.self.inside.ahead.entries c.in-Some-pop_first.field-0 c.pop_first.new.self.entries c.in-Some.seq.now
    c.in-Some.batch.now c.in-Ok.batch c.push.new.self c.self.invariant c.in-Some.ensures.first (omega arith) c.in-Some-pop_first.ensures.removal
    c.in-Ok.ensures c.in-Ok-push.ensures.added).1
    ∙ c.self.view_is
