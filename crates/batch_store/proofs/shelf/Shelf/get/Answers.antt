use Rattle.std.proofs.Common.{arith, inr, rules}
use Rattle.batch_store.proofs.ShelfLemmas.{is_at_whole, is_at_ahead, none_at_zero, shelf_rises}
use Rattle.batch_store.proofs.shelf.Shelf.get.Goals as goal

pub returns-then-seq-eq0-clause-batch : goal.returns-then-seq-eq0-clause-batch
returns-then-seq-eq0-clause-batch c =
    let at = none_at_zero c.self.inside.whole c.self.inside.ahead.entries c.self.invariant in
    search (rules, at)

pub returns-clause-batch : goal.returns-clause-batch
returns-clause-batch c =
    let at = is_at_whole c.self.inside.whole c.self.inside.ahead.entries c.args.seq c.at.result.now c.self.invariant (omega arith) (omega arith) c.at.ensures in
    search (rules, at)

pub returns-in-Some-clause-batch : goal.returns-in-Some-clause-batch
returns-in-Some-clause-batch c =
    let at = is_at_ahead c.self.inside.whole c.self.inside.ahead.entries c.args.seq c.self.invariant (inr (omega arith)) in
    search (rules, at)

pub returns-in-None-clause-batch : goal.returns-in-None-clause-batch
returns-in-None-clause-batch c =
    let at = is_at_ahead c.self.inside.whole c.self.inside.ahead.entries c.args.seq c.self.invariant (inr (omega arith)) in
    search (rules, at)

pub returns-then-seq-eq0-clause-rises : goal.returns-then-seq-eq0-clause-rises
returns-then-seq-eq0-clause-rises c = let rises = shelf_rises c.self.inside.whole c.self.inside.ahead.entries c.self.invariant in search (rules, rises)

pub returns-clause-rises : goal.returns-clause-rises
returns-clause-rises c = let rises = shelf_rises c.self.inside.whole c.self.inside.ahead.entries c.self.invariant in search (rules, rises)

pub returns-in-Some-clause-rises : goal.returns-in-Some-clause-rises
returns-in-Some-clause-rises c = let rises = shelf_rises c.self.inside.whole c.self.inside.ahead.entries c.self.invariant in search (rules, rises)

pub returns-in-None-clause-rises : goal.returns-in-None-clause-rises
returns-in-None-clause-rises c = let rises = shelf_rises c.self.inside.whole c.self.inside.ahead.entries c.self.invariant in search (rules, rises)
