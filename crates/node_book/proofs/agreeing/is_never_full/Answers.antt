use Rattle.std.proofs.Common.{◌≡◌, ◌∙◌, ℕ, length, map, true, refl, sym, arith}
use Rattle.std.proofs.lemmas.List.{length-map}
use Rattle.metering_model.specs.History.{Entry}
use Rattle.node_book.specs.Kept.{entry_of}
use Rattle.node_book.specs.Whole.{has_room}
use Rattle.node_book.proofs.Lists.{item_at, each_more, each_all, no_false}
use Rattle.node_book.proofs.agreeing.is_never_full.Goals as goal

pub returns-then-not-has_room : goal.returns-then-not-has_room
returns-then-not-has_room c =
    let x = c.entry-item in
    let at = item_at entry_of c.args.history.now c.loop-entry.entry-index x.result c.loop-entry-test.true x.is in
    ((λ t. no_false t), (λ all. c.if-not-has_room.ensures ∙ all c.loop-entry.entry-index (entry_of x.result) at))

pub loop-entry-preserved : goal.loop-entry-preserved
loop-entry-preserved c =
    let x = c.entry-item in
    let at = item_at entry_of c.args.history.now c.loop-entry.entry-index x.result c.loop-entry-test.true x.is in
    each_more (λ (k : ℕ) (e : Entry). has_room e.reply ≡ true) (map entry_of c.args.history.now) c.loop-entry.entry-index (entry_of x.result) at (sym c.if-not-has_room.ensures) c.loop-entry.invariant

pub returns : goal.returns
returns c =
    let over = c.loop-entry-test.false in
    let within = c.loop-entry.auto.entry-index-end in
    let end : c.loop-entry.entry-index ≡ length (map entry_of c.args.history.now) = omega (arith, over, within, length-map c.args.history.now entry_of) in
    ((λ t. each_all (λ (k : ℕ) (e : Entry). has_room e.reply ≡ true) (map entry_of c.args.history.now) c.loop-entry.entry-index end c.loop-entry.invariant), (λ all. refl))
