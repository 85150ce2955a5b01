use Rattle.std.proofs.Common.{◌≡◌, true, sym, subst, ◌∙◌, arith, inl, inr, rules}
use Rattle.std.proofs.lemmas.Bool.{cases_lt}
use Rattle.std.specs.Option.{is_some}
use Rattle.batch_store.specs.Inner.Shelves.{at_seq}
use Rattle.batch_store.proofs.ShelfLemmas.{all_at_whole, is_there_ahead, none_where_false, none_beyond}
use Rattle.batch_store.proofs.shelf.Shelf.first_absent.Goals as goal

pub loop-seq-init : goal.loop-seq-init
loop-seq-init c seq low high =
    let at = all_at_whole c.self.inside.whole c.self.inside.ahead.entries seq c.self.invariant low (omega (arith, high)) in
    search (rules, at)

pub returns-then-not-contains_key-clause-absent : goal.returns-then-not-contains_key-clause-absent
returns-then-not-contains_key-clause-absent c =
    let at = is_there_ahead c.self.inside.whole c.self.inside.ahead.entries c.loop-seq.seq-counter c.self.invariant (omega arith) in
    let none = none_where_false _ (at ∙ (sym c.contains_key.ensures ∙ c.if-not-contains_key.true)) in
    search (rules, none)

pub loop-seq-preserved : goal.loop-seq-preserved
loop-seq-preserved c seq low high =
    let at = is_there_ahead c.self.inside.whole c.self.inside.ahead.entries c.loop-seq.seq-counter c.self.invariant (omega arith) in
    elim (cases_lt seq c.loop-seq.seq-counter) [
      | inl before ↦ c.loop-seq.invariant seq low before
      | inr here ↦
          let same : c.loop-seq.seq-counter ≡ seq = omega (arith, high, here) in
          let there = at ∙ (sym c.contains_key.ensures ∙ c.if-not-contains_key.false) in
          subst (λ s. is_some (at_seq c.args.self.now s) ≡ true) same (subst (λ h. is_some (at_seq h c.loop-seq.seq-counter) ≡ true) c.self.view_is there)
    ]

pub returns-clause-absent : goal.returns-clause-absent
returns-clause-absent c =
    let none = none_beyond c.self.inside.whole c.self.inside.ahead.entries 1_000_001 c.self.invariant (omega arith) in
    search (rules, none)

pub returns-clause-below : goal.returns-clause-below
returns-clause-below c = search rules
