use Rattle.std.proofs.Common.{◌-◌, sym, subst, arith}
use Rattle.metering_model.proofs.HoldingLaws.{held_place}
use Rattle.batch_view.specs.Batches.{batch_of}
use Rattle.batch_store.proofs.AmendedValues.{AreGivenAbove, above_first, above_given, above_absent, above_all}
use Rattle.batch_store.proofs.stores.Store.fill_later.Goals.{in-Some-get, in_default-get}
use Rattle.batch_store.proofs.stores.Store.fill_later.Goals as goal

pub loop-by-init : goal.loop-by-init
loop-by-init c = (c.requires.upto, above_first c.args.self.now.batches c.args.agent c.args.seq c.args.upto c.args.values.now c.requires.none)

pub loop-by-smaller : goal.loop-by-smaller
loop-by-smaller c = let behind = c.in-Some.ensures.behind in let within = c.in-Some.ensures.within in omega (arith, behind, within)

pub loop-by-preserved : goal.loop-by-preserved
loop-by-preserved c =
    let h = c.args.self.now.batches in
    let is = c.requires.stored.is_holding in
    let last = c.in-Some.ensures in
    let behind = last.behind in
    let above = c.loop-by.invariant.1 in (
      omega (arith, behind),
      elim c.match-get.branch [
        | in-Some-get w ↦
            subst (λ vs. AreGivenAbove h c.args.agent c.args.seq c.args.upto (c.in-Some.by - 1) vs) (sym w.values-is)
            (above_given h c.args.agent c.args.seq c.args.upto c.loop-by.left is c.loop-by.values above c.in-Some.by last (batch_of w.in-Some-get.batch.now) w.fill_given.new.values w.in-Some-get.ensures w.fill_given.ensures.length
            (w.fill_given.ensures.later (λ same. let place = (held_place h c.args.agent c.in-Some.by (batch_of w.in-Some-get.batch.now) (sym w.in-Some-get.ensures)).1 in omega (arith, same, place, behind))))
        | in_default-get w ↦
            subst (λ vs. AreGivenAbove h c.args.agent c.args.seq c.args.upto (c.in-Some.by - 1) vs) (sym w.values-is)
            (above_absent h c.args.agent c.args.seq c.args.upto c.loop-by.left is c.loop-by.values above c.in-Some.by last w.in_default-get.ensures)
      ],
    )

pub returns-clause-later : goal.returns-clause-later
returns-clause-later c = λ k less.
    above_all c.args.self.now.batches c.args.agent c.args.seq c.args.upto c.loop-by.left c.requires.stored.is_holding c.loop-by.values c.loop-by.invariant.1 c.loop-by.invariant.0 c.in_default.ensures k (omega (arith, less))
