use Rattle.std.proofs.Common.{◌≡◌, ◌↔◌, ℕ, ◌+◌, map, length, IsTrue, nat_eq, refl, sym, subst, arith, eqb-true, eq-eqb}
use Rattle.std.proofs.lemmas.List.{length-map}
use Rattle.std.proofs.lemmas.Option.{slice_get_within}
use Rattle.metering_model.specs.History.{Entry}
use Rattle.node_book.specs.Books.{Told}
use Rattle.node_book.specs.Kept.{entry_of}
use Rattle.node_book.specs.Agreement.{told_to}
use Rattle.node_book.proofs.Lists.{item_at, no_false}
use Rattle.node_book.proofs.Own.{IsLeft, own_steps, own_skips, own_stops, own_ends}
use Rattle.node_book.proofs.agreeing.is_told.Goals as goal
use Rattle.node_book.proofs.agreeing.is_told.Goals.{then-is_same_worker+else-not-is_next_done, else-is_same_worker}

abbrev told : ℕ → Entry → Told
told place e = record { index = place; reply = e.reply }

pub returns-then-not-is_next_done : goal.returns-then-not-is_next_done
returns-then-not-is_next_done c =
    let history = map entry_of c.args.history.now in
    let x = c.index-history-place in (
      (λ t. no_false t),
      (λ p. absurd (own_stops told c.args.who (told_to c.args.who history ≡ c.args.done.now) history c.args.done.now c.loop-place.place c.loop-place.next (entry_of x.result)
          (item_at entry_of c.args.history.now c.loop-place.place x.result c.loop-place-test.true x.is) c.loop-place.invariant.left (sym c.if-is_same_worker.ensures) (λ found. no_false (c.if-not-is_next_done.ensures.1 found)) p)),
    )

pub loop-place-preserved : goal.loop-place-preserved
loop-place-preserved c =
    let history = map entry_of c.args.history.now in
    let x = c.index-history-place in
    let P = told_to c.args.who history ≡ c.args.done.now in
    let at = item_at entry_of c.args.history.now c.loop-place.place x.result c.loop-place-test.true x.is in
    let within = c.loop-place.invariant.within in
    elim c.if-is_same_worker.branch [
      | then-is_same_worker+else-not-is_next_done w ↦
          let found = w.if-not-is_next_done.ensures.0 refl in
          let next = w.next-is in
          let less = slice_get_within c.args.done.now c.loop-place.next _ found in
          record {
            within = omega (arith, next, less);
            left = subst (λ n. IsLeft told c.args.who P history c.args.done.now (c.loop-place.place + 1) n) (sym next)
                (own_steps told c.args.who P history c.args.done.now c.loop-place.place c.loop-place.next (entry_of x.result) at c.loop-place.invariant.left (sym w.if-is_same_worker.ensures) found);
          }
      | else-is_same_worker w ↦
          let next = w.next-is in
          record {
            within = omega (arith, next, within);
            left = subst (λ n. IsLeft told c.args.who P history c.args.done.now (c.loop-place.place + 1) n) (sym next)
                (own_skips told c.args.who P history c.args.done.now c.loop-place.place c.loop-place.next (entry_of x.result) at c.loop-place.invariant.left (sym w.if-is_same_worker.ensures));
          }
    ]

pub returns : goal.returns
returns c =
    let history = map entry_of c.args.history.now in
    let over = c.loop-place-test.false in
    let within = c.loop-place.auto.place-end in
    let end : c.loop-place.place ≡ length history = omega (arith, over, within, length-map c.args.history.now entry_of) in
    let same = own_ends told c.args.who (told_to c.args.who history ≡ c.args.done.now) history c.args.done.now c.loop-place.place c.loop-place.next end c.loop-place.invariant.within c.loop-place.invariant.left in
    let test : IsTrue (nat_eq c.loop-place.next (length c.args.done.now)) ↔ (c.loop-place.next ≡ length c.args.done.now) = (eqb-true _ _, eq-eqb _ _) in
    ((λ t. same.1 (test.0 t)), (λ p. test.1 (same.0 p)))
