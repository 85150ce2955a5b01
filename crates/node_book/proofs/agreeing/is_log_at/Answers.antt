use Rattle.std.proofs.Common.{◌≡◌, ◌↔◌, ◌<◌, ◌≤◌, ℕ, List, length, map, refl, sym, ap, subst, ◌∙◌, arith, IsTrue, Vec, vec_len}
use Rattle.std.specs.declared.alloc.Global.{Global}
use Rattle.std.proofs.lemmas.List.{length-map}
use Rattle.std.proofs.lemmas.Simd.{map-map}
use Rattle.metering_model.specs.World.{Event, Journal, offer_of}
use Rattle.node_book.specs.Books.{Told}
use Rattle.node_book.specs.Kept.{entry_of}
use Rattle.node_book.specs.Logs.{log_of, plan_of}
use Rattle.node_book.specs.Agreement.{worker_at, ExportsEach}
use Rattle.node_book.proofs.Lists.{item_at}
use Rattle.node_book.proofs.Parts.{texts_in, log_of_agent, log_of_node, journal_of}
use Rattle.node_book.proofs.agreeing.is_log_at.Goals as goal

-- the journals as they are counted
agents : (journals : Vec (Vec (Vec ℕ Global) Global) Global) → vec_len journals ≡ length (map texts_in journals.items)
agents journals = journals.ok.0 ∙ sym (length-map journals.items texts_in)

abbrev kept_journal : Vec ℕ Global → Event
kept_journal text = Journal (offer_of text.items)

abbrev bytes : Vec ℕ Global → List ℕ
bytes text = text.items

pub returns-then-place-len : goal.returns-then-place-len
returns-then-place-len c =
    let plan = plan_of c.args.plan.now in
    let mine = texts_in c.index.result.now in
    let count = agents c.args.plan.now.journals in
    let who = c.if-not-is_worker_at.ensures.0 refl ∙ ap (λ n. worker_at n c.args.place) (c.len.ensures ∙ count) in
    let told = c.if-not-is_told.ensures.0 refl ∙ c.deref.ensures.value in
    let less = c.if-place-len.true in
    let of = c.len-2.ensures in
    let lt : c.args.place < length c.args.plan.now.journals.items = omega (arith, less, of, count, length-map c.args.plan.now.journals.items texts_in) in
    let at = item_at texts_in c.args.plan.now.journals.items c.args.place c.index.result.now lt c.index.ensures in
    let same = log_of_agent plan (map entry_of c.args.history.now) c.args.place (log_of c.args.log.now) who told mine at in
    let texts : map journal_of mine ≡ map kept_journal c.deref-then-place-len.result.now =
    map-map journal_of bytes c.index.result.now.items ∙ ap (map kept_journal) (sym c.deref-then-place-len.ensures.value) in
    ((λ t. same.0 (c.has_offered.ensures.0 t ∙ sym texts)), (λ l. c.has_offered.ensures.1 (same.1 l ∙ texts)))

pub returns-else-place-len : goal.returns-else-place-len
returns-else-place-len c =
    let plan = plan_of c.args.plan.now in
    let count = agents c.args.plan.now.journals in
    let who = c.if-not-is_worker_at.ensures.0 refl ∙ ap (λ n. worker_at n c.args.place) (c.len.ensures ∙ count) in
    let told = c.if-not-is_told.ensures.0 refl ∙ c.deref.ensures.value in
    let over = c.if-place-len.false in
    let of = c.len-2.ensures in
    let ge : length plan.journals ≤ c.args.place = omega (arith, over, of, count) in
    let same = log_of_node plan (map entry_of c.args.history.now) c.args.place (log_of c.args.log.now) who told ge in
    let each : IsTrue c.exports_each.result ↔ ExportsEach c.args.plan.now.periods c.args.log.now.done.items =
    subst (λ (xs : List Told). IsTrue c.exports_each.result ↔ ExportsEach c.args.plan.now.periods xs) c.deref-else-place-len.ensures.value c.exports_each.ensures in
    ((λ t. same.0 (each.0 t)), (λ l. each.1 (same.1 l)))
