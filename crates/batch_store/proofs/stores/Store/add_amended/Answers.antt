use Rattle.std.proofs.Common.{◌≡◌, ◌+◌, List, ap, subst, sym, ◌∙◌, arith}
use Rattle.batch_view.specs.Batches.{batch_of}
use Rattle.batch_store.specs.declared.RecordPlace.{RecordPlace}
use Rattle.batch_store.specs.Inner.Amended.{Adds, IsNamedOf}
use Rattle.batch_store.proofs.NamedPlaces.{Adds-first, Adds-absent, Adds-held}
use Rattle.batch_store.proofs.stores.Store.add_amended.Goals.{in-Some+in_ok-add_named, in_default}
use Rattle.batch_store.proofs.stores.Store.add_amended.Goals as goal

pub loop-seq-init : goal.loop-seq-init
loop-seq-init c = Adds-first c.args.self.now.batches c.args.agent c.args.from c.args.places.now.items

pub loop-seq-preserved : goal.loop-seq-preserved
loop-seq-preserved c = elim c.match-get.branch [
  | in-Some+in_ok-add_named w ↦ Adds-held c.args.self.now.batches c.args.agent c.args.from c.loop-seq.seq
      (batch_of w.in-Some.batch.now) w.amendments.result.now c.args.places.now.items c.loop-seq.places.items c.match-get.places.items
      (omega arith) w.in-Some.ensures w.amendments.ensures c.loop-seq.invariant
      (ap (λ v. v.items) w.places-is ∙ w.in_ok-add_named.ensures)
  | in_default w ↦
      let kept = Adds-absent c.args.self.now.batches c.args.agent c.args.from c.loop-seq.seq c.args.places.now.items c.loop-seq.places.items w.in_default.ensures c.loop-seq.invariant in
      subst (λ (xs : List RecordPlace). Adds (IsNamedOf c.args.self.now.batches c.args.agent c.args.from (c.loop-seq.seq + 1)) c.args.places.now.items xs) (sym (ap (λ v. v.items) w.places-is)) kept
]

pub returns : goal.returns
returns c = let end : c.loop-seq.seq ≡ c.args.to = omega arith in subst (λ to. Adds (IsNamedOf c.args.self.now.batches c.args.agent c.args.from to) c.args.places.now.items c.loop-seq.places.items) end c.loop-seq.invariant
