use Rattle.std.proofs.Common.{◌∙◌, sym, arith, refl}
use Rattle.batch_view.specs.Batches.{batch_of}
use Rattle.batch_store.specs.Stores.{position_of}
use Rattle.batch_store.proofs.LastGiven.{found_at, passed_held, passed_absent}
use Rattle.batch_store.proofs.Spared.{spared}
use Rattle.batch_store.proofs.stores.Store.last_amended.Goals.{in-Some-get+else-is_some, in_default-get}
use Rattle.batch_store.proofs.stores.Store.last_amended.Goals as goal

pub loop-seq-init : goal.loop-seq-init
loop-seq-init c = (c.requires.seq, refl)

pub loop-seq-preserved : goal.loop-seq-preserved
loop-seq-preserved c =
    let h = c.args.self.now.batches in
    let p = position_of c.args.place in
    let is = c.requires.stored.is_holding in
    let behind = c.in-Some.ensures.behind in
    let so_far = c.loop-seq.invariant.1 ∙ spared h p c.loop-seq.left c.in-Some.seq is (omega (arith, behind)) c.in-Some.ensures.within c.in-Some.ensures.none_later in
    elim c.match-get.branch [
      | in-Some-get+else-is_some w ↦
          (omega (arith, behind), passed_held h p c.args.upto c.in-Some.seq (batch_of w.in-Some-get.batch.now) w.value_given-given.result is (omega (arith, behind)) so_far w.in-Some-get.ensures w.value_given-given.ensures (sym w.is_some.ensures ∙ w.if-is_some.false))
      | in_default-get w ↦ (omega (arith, behind), passed_absent h p c.args.upto c.in-Some.seq is (omega (arith, behind)) so_far w.in_default-get.ensures)
    ]

pub returns-then-is_some : goal.returns-then-is_some
returns-then-is_some c =
    let h = c.args.self.now.batches in
    let p = position_of c.args.place in
    let is = c.requires.stored.is_holding in
    let behind = c.in-Some.ensures.behind in
    let so_far = c.loop-seq.invariant.1 ∙ spared h p c.loop-seq.left c.in-Some.seq is (omega (arith, behind)) c.in-Some.ensures.within c.in-Some.ensures.none_later in
    found_at h p c.args.upto c.in-Some.seq (batch_of c.in-Some-get.batch.now) c.value_given-given.result _ is (omega (arith, behind)) so_far c.in-Some-get.ensures c.value_given-given.ensures (sym c.is_some.ensures ∙ c.if-is_some.true)

pub returns : goal.returns
returns c =
    let h = c.args.self.now.batches in
    let p = position_of c.args.place in
    c.loop-seq.invariant.1 ∙ spared h p c.loop-seq.left c.args.place.seq c.requires.stored.is_holding (omega arith) c.loop-seq.invariant.0 c.in_default.ensures
