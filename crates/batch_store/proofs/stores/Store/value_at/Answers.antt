use Rattle.std.proofs.Common.{None, true, false, is_some, refl, sym, ap, ◌∙◌, arith}
use Rattle.batch_view.specs.Batches.{batch_of}
use Rattle.batch_store.specs.Stores.{position_of}
use Rattle.batch_store.proofs.OwnValue.{own_gives, reading-absent, reading-held, there-where, value-where, zero-where, own-last}
use Rattle.batch_store.proofs.stores.Store.value_at.Goals as goal

pub returns-in_err-own-clause-there : goal.returns-in_err-own-clause-there
returns-in_err-own-clause-there c =
    there-where c.args.self.now.batches (position_of c.args.place) c.from_residual.result false (ap is_some c.from_residual.ensures) (reading-absent c.args.self.now.batches (position_of c.args.place) c.in_err-own.ensures)

pub returns-then-not-is_reading-clause-there : goal.returns-then-not-is_reading-clause-there
returns-then-not-is_reading-clause-there c =
    there-where c.args.self.now.batches (position_of c.args.place) None false refl
    (reading-held c.args.self.now.batches (position_of c.args.place) (batch_of c.in_ok-own.own.now) c.in_ok-own.ensures ∙ (sym c.is_reading.ensures ∙ c.if-not-is_reading.true))

pub returns-then-upto-place-clause-there : goal.returns-then-upto-place-clause-there
returns-then-upto-place-clause-there c =
    there-where c.args.self.now.batches (position_of c.args.place) c.new.result true (ap is_some (c.new.ensures.within (omega arith)))
    (reading-held c.args.self.now.batches (position_of c.args.place) (batch_of c.in_ok-own.own.now) c.in_ok-own.ensures ∙ (sym c.is_reading.ensures ∙ c.if-not-is_reading.false))

pub returns-then-upto-place-clause-value : goal.returns-then-upto-place-clause-value
returns-then-upto-place-clause-value c = zero-where c.args.self.now.batches (position_of c.args.place) c.args.upto c.new.result (omega arith) (c.new.ensures.within (omega arith))

pub returns-then-is_some-clause-there : goal.returns-then-is_some-clause-there
returns-then-is_some-clause-there c =
    there-where c.args.self.now.batches (position_of c.args.place) c.last_amended-later.result true (sym c.is_some.ensures ∙ c.if-is_some.true)
    (reading-held c.args.self.now.batches (position_of c.args.place) (batch_of c.in_ok-own.own.now) c.in_ok-own.ensures ∙ (sym c.is_reading.ensures ∙ c.if-not-is_reading.false))

pub returns-then-is_some-clause-value : goal.returns-then-is_some-clause-value
returns-then-is_some-clause-value c = value-where c.args.self.now.batches (position_of c.args.place) c.args.upto c.last_amended-later.result _ (omega arith) c.last_amended-later.ensures

pub returns-clause-there : goal.returns-clause-there
returns-clause-there c =
    let there = reading-held c.args.self.now.batches (position_of c.args.place) (batch_of c.in_ok-own.own.now) c.in_ok-own.ensures ∙ (sym c.is_reading.ensures ∙ c.if-not-is_reading.false) in
    there-where c.args.self.now.batches (position_of c.args.place) c.value_given.result true
    (ap is_some c.value_given.ensures ∙ own_gives c.args.self.now.batches (position_of c.args.place) (batch_of c.in_ok-own.own.now) c.in_ok-own.ensures (sym c.is_reading.ensures ∙ c.if-not-is_reading.false))
    there

pub returns-clause-value : goal.returns-clause-value
returns-clause-value c =
    value-where c.args.self.now.batches (position_of c.args.place) c.args.upto c.value_given.result None (omega arith)
    (own-last c.args.self.now.batches (position_of c.args.place) c.args.upto
    (batch_of c.in_ok-own.own.now) c.last_amended-later.result c.value_given.result None c.agents-agents.ensures.stored.is_holding c.in_ok-own.ensures
    (sym c.is_reading.ensures ∙ c.if-not-is_reading.false) c.last_amended-later.ensures (sym c.is_some.ensures ∙ c.if-is_some.false) c.value_given.ensures)
