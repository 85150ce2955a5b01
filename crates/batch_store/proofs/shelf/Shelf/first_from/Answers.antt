use Rattle.std.proofs.Common.{◌≡◌, sym, subst, ◌∙◌, arith, rules, ◌∷◌, ◌+◌}
use Rattle.std.specs.Map.Iter.{deref_pair}
use Rattle.std.proofs.lemmas.Map.Iter.{rest_more, rest_all}
use Rattle.batch_view.specs.Batches.{batch_of}
use Rattle.batch_store.specs.Inner.Shelves.{from_seq}
use Rattle.batch_store.proofs.FromLemmas.{from_least, filed_from, first_whole, first_later, no_later}
use Rattle.batch_store.proofs.shelf.Shelf.first_from.Goals as goal

pub returns-then-first-len : goal.returns-then-first-len
returns-then-first-len c =
    let first = first_whole c.self.inside.whole c.self.inside.ahead.entries c.args.self.now c.max-first.result c.self.view_is c.self.invariant c.at.result.now (omega arith) (omega arith) c.at.ensures in
    subst (λ b. from_seq c.args.seq c.args.self.now ≡ batch_of b ∷ from_seq ((batch_of b).seq + 1) c.args.self.now) (sym c.deref.ensures)
    (sym (from_least c.self.inside.whole c.self.inside.ahead.entries c.args.self.now c.args.seq c.max-first.result c.self.view_is c.self.invariant c.max-first.ensures) ∙ first)

pub returns-in-Some : goal.returns-in-Some
returns-in-Some c =
    let between : c.range-later.result ≡ filed_from c.max-first.result c.self.inside.ahead.entries = search rules in
    let first = rest_more deref_pair c.range-later.result c.next.new.self c.next.result (c.in-Some.field-0-0, c.in-Some.batch) c.in-Some.is c.next.ensures.steps in
    let later = first_later c.self.inside.whole c.self.inside.ahead.entries c.args.self.now c.max-first.result c.self.view_is c.self.invariant (c.in-Some.field-0-0.now, c.in-Some.batch.now) c.next.new.self (omega arith) (sym between ∙ first) in
    subst (λ b. from_seq c.args.seq c.args.self.now ≡ batch_of b ∷ from_seq ((batch_of b).seq + 1) c.args.self.now) (sym c.deref-in-Some.ensures)
    (sym (from_least c.self.inside.whole c.self.inside.ahead.entries c.args.self.now c.args.seq c.max-first.result c.self.view_is c.self.invariant c.max-first.ensures) ∙ later)

pub returns-in-None : goal.returns-in-None
returns-in-None c =
    let between : c.range-later.result ≡ filed_from c.max-first.result c.self.inside.ahead.entries = search rules in
    let none = rest_all deref_pair c.range-later.result c.next.new.self c.next.result c.in-None.is c.next.ensures.steps in
    sym (from_least c.self.inside.whole c.self.inside.ahead.entries c.args.self.now c.args.seq c.max-first.result c.self.view_is c.self.invariant
    c.max-first.ensures) ∙ no_later c.self.inside.whole c.self.inside.ahead.entries c.args.self.now c.max-first.result c.self.view_is
    c.self.invariant (omega arith) (sym between ∙ none)
