-- Behind those without a gap stands one more, or in the map.
use Rattle.std.proofs.Common.{◌∷◌, ◌++◌, [], refl, ◌∙◌, arith}
use Rattle.batch_store.proofs.Clones.{on_same_shelf, same_shelf}
use Rattle.batch_store.proofs.ShelfLemmas.{add_next, add_later}
use Rattle.batch_store.proofs.shelf.Shelf.add.Goals as goal

pub invariant_of-self-then-seq-len : goal.invariant_of-self-then-seq-len
invariant_of-self-then-seq-len c =
    let more = c.self.inside.whole ++ c.args.batch ∷ [] in
    let added = add_next c.self.inside.whole c.self.inside.ahead.entries c.args.self.now c.args.batch c.args.seq c.self.view_is c.self.invariant c.requires.seq c.requires.range c.requires.of_agent c.requires.absent more (omega arith) refl in
    same_shelf more c.push.new.self c.self.inside.ahead.entries c.in_ok-push.ensures.added added.0

pub returns-then-seq-len-clause-ok : goal.returns-then-seq-len-clause-ok
returns-then-seq-len-clause-ok c =
    let more = c.self.inside.whole ++ c.args.batch ∷ [] in
    let added = add_next c.self.inside.whole c.self.inside.ahead.entries c.args.self.now c.args.batch c.args.seq c.self.view_is c.self.invariant c.requires.seq c.requires.range c.requires.of_agent c.requires.absent more (omega arith) refl in
    on_same_shelf more c.push.new.self c.self.inside.ahead.entries c.in_ok-push.ensures.added ∙ added.1

pub invariant_of-self-2 : goal.invariant_of-self-2
invariant_of-self-2 c = (add_later c.self.inside.whole c.self.inside.ahead.entries c.args.self.now c.args.batch c.args.seq c.self.view_is c.self.invariant c.requires.seq c.requires.range c.requires.of_agent c.requires.absent c.insert.new.self.entries c.in_ok-insert.ensures.entries).0

pub returns-clause-ok : goal.returns-clause-ok
returns-clause-ok c = (add_later c.self.inside.whole c.self.inside.ahead.entries c.args.self.now c.args.batch c.args.seq c.self.view_is c.self.invariant c.requires.seq c.requires.range c.requires.of_agent c.requires.absent c.insert.new.self.entries c.in_ok-insert.ensures.entries).1
