use Rattle.std.proofs.Common.{◌≡◌, ◌↔◌, ℕ, ◌+◌, map, length, IsTrue, nat_eq, refl, sym, subst, ◌∙◌, arith, eqb-true, eq-eqb, Vec}
use Rattle.std.specs.declared.alloc.Global.{Global}
use Rattle.std.proofs.lemmas.List.{length-map}
use Rattle.std.proofs.lemmas.Option.{slice_get_within}
use Rattle.metering_model.specs.History.{Entry}
use Rattle.metering_model.specs.World.{Event, Journal, offer_of}
use Rattle.node_book.specs.Kept.{entry_of}
use Rattle.node_book.specs.Agreement.{events_by}
use Rattle.node_book.proofs.Lists.{item_at, no_false}
use Rattle.node_book.proofs.Own.{IsLeft, own_steps, own_skips, own_stops, own_ends}
use Rattle.node_book.proofs.agreeing.has_offered.Goals as goal
use Rattle.node_book.proofs.agreeing.has_offered.Goals.{then-is_same_worker+else-not-is_next_text, else-is_same_worker}

abbrev event_at : ℕ → Entry → Event
event_at place e = e.event

abbrev journal_of : Vec ℕ Global → Event
journal_of text = Journal (offer_of text.items)

pub returns-then-not-is_next_text : goal.returns-then-not-is_next_text
returns-then-not-is_next_text c =
    let history = map entry_of c.args.history.now in
    let texts = map journal_of c.args.texts.now in
    let x = c.index-history-place in (
      (λ t. no_false t),
      (λ p. absurd (own_stops event_at c.args.who (events_by c.args.who history ≡ texts) history texts c.loop-place.place c.loop-place.next (entry_of x.result)
          (item_at entry_of c.args.history.now c.loop-place.place x.result c.loop-place-test.true x.is) c.loop-place.invariant.left (sym c.if-is_same_worker.ensures) (λ found. no_false (c.if-not-is_next_text.ensures.1 found)) p)),
    )

pub loop-place-preserved : goal.loop-place-preserved
loop-place-preserved c =
    let history = map entry_of c.args.history.now in
    let texts = map journal_of c.args.texts.now in
    let x = c.index-history-place in
    let P = events_by c.args.who history ≡ texts in
    let at = item_at entry_of c.args.history.now c.loop-place.place x.result c.loop-place-test.true x.is in
    let within = c.loop-place.invariant.within in
    elim c.if-is_same_worker.branch [
      | then-is_same_worker+else-not-is_next_text w ↦
          let found = w.if-not-is_next_text.ensures.0 refl in
          let next = w.next-is in
          let less = slice_get_within texts c.loop-place.next _ found in
          record {
            within = omega (arith, next, less, length-map c.args.texts.now journal_of);
            left = subst (λ n. IsLeft event_at c.args.who P history texts (c.loop-place.place + 1) n) (sym next)
                (own_steps event_at c.args.who P history texts c.loop-place.place c.loop-place.next (entry_of x.result) at c.loop-place.invariant.left (sym w.if-is_same_worker.ensures) found);
          }
      | else-is_same_worker w ↦
          let next = w.next-is in
          record {
            within = omega (arith, next, within);
            left = subst (λ n. IsLeft event_at c.args.who P history texts (c.loop-place.place + 1) n) (sym next)
                (own_skips event_at c.args.who P history texts c.loop-place.place c.loop-place.next (entry_of x.result) at c.loop-place.invariant.left (sym w.if-is_same_worker.ensures));
          }
    ]

pub returns : goal.returns
returns c =
    let history = map entry_of c.args.history.now in
    let texts = map journal_of c.args.texts.now in
    let over = c.loop-place-test.false in
    let least = c.loop-place.invariant.within in
    let within = c.loop-place.auto.place-end in
    let end : c.loop-place.place ≡ length history = omega (arith, over, within, length-map c.args.history.now entry_of) in
    let same = own_ends event_at c.args.who (events_by c.args.who history ≡ texts) history texts c.loop-place.place c.loop-place.next end (omega (arith, least, length-map c.args.texts.now journal_of)) c.loop-place.invariant.left in
    let test : IsTrue (nat_eq c.loop-place.next (length c.args.texts.now)) ↔ (c.loop-place.next ≡ length c.args.texts.now) = (eqb-true _ _, eq-eqb _ _) in
    let count : length texts ≡ length c.args.texts.now = length-map c.args.texts.now journal_of in
    ((λ t. same.1 (test.0 t ∙ sym count)), (λ p. test.1 (same.0 p ∙ count)))
