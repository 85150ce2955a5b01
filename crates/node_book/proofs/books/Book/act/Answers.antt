use Rattle.std.proofs.Common.{◌≡◌, ℕ, List, [], ◌∷◌, ◌++◌, length, map, ap, ap₂, ◌∙◌, arith, subst}
use Rattle.std.proofs.lemmas.List.{length-map, map-append}
use Rattle.std.specs.Arc.{arc_value}
use Rattle.metering_model.specs.declared.Worker.{Worker}
use Rattle.metering_model.specs.History.{Entry}
use Rattle.metering_model.specs.Step.{Outcome, step}
use Rattle.metering_model.specs.World.{Event, Reply, opening}
use Rattle.group_core.specs.Headline.{IsUnchangedAt}
use Rattle.group_events.specs.Events.{event_of}
use Rattle.group_events.specs.Replies.{reply_of}
use Rattle.node_book.specs.Books.{Book, Told, opened}
use Rattle.node_book.specs.Kept.{entry_of}
use Rattle.node_book.proofs.Legal.{by_growth, if_not_ok, legal_more, on_err}
use Rattle.node_book.proofs.books.Book.act.Goals as goal

pub invariant_of-self : goal.invariant_of-self
invariant_of-self c = rw c.in_err-reserve.ensures.items c.self.invariant

pub returns-in_err-reserve-clause-kept : goal.returns-in_err-reserve-clause-kept
returns-in_err-reserve-clause-kept c = rw c.in_err-reserve.ensures.items (on_err c.from_residual.result _ c.self.view_is)

pub returns-in_err-reserve-clause-history : goal.returns-in_err-reserve-clause-history
returns-in_err-reserve-clause-history c = if_not_ok c.from_residual.result _ c.from_residual.ensures.0

pub returns-in_err-reserve-clause-world : goal.returns-in_err-reserve-clause-world
returns-in_err-reserve-clause-world c = if_not_ok c.from_residual.result _ c.from_residual.ensures.0

pub returns-in_err-reserve-clause-unchanged : goal.returns-in_err-reserve-clause-unchanged
returns-in_err-reserve-clause-unchanged c = if_not_ok c.from_residual.result _ c.from_residual.ensures.0

pub returns-in_err-reserve-clause-receipt : goal.returns-in_err-reserve-clause-receipt
returns-in_err-reserve-clause-receipt c = if_not_ok c.from_residual.result _ c.from_residual.ensures.0

pub returns-in_err-reserve-clause-group : goal.returns-in_err-reserve-clause-group
returns-in_err-reserve-clause-group c = ap opened c.self.view_is

pub invariant_of-self-in_err-reply : goal.invariant_of-self-in_err-reply
invariant_of-self-in_err-reply c = rw (c.in_ok-reserve.ensures.items, c.in_err-reply.ensures.kept) c.self.invariant

pub returns-in_err-reply-clause-kept : goal.returns-in_err-reply-clause-kept
returns-in_err-reply-clause-kept c = rw (c.in_ok-reserve.ensures.items, c.in_err-reply.ensures.kept) (on_err c.from_residual-in_err-reply.result _ c.self.view_is)

pub returns-in_err-reply-clause-history : goal.returns-in_err-reply-clause-history
returns-in_err-reply-clause-history c = if_not_ok c.from_residual-in_err-reply.result _ c.from_residual-in_err-reply.ensures.0

pub returns-in_err-reply-clause-world : goal.returns-in_err-reply-clause-world
returns-in_err-reply-clause-world c = if_not_ok c.from_residual-in_err-reply.result _ c.from_residual-in_err-reply.ensures.0

pub returns-in_err-reply-clause-unchanged : goal.returns-in_err-reply-clause-unchanged
returns-in_err-reply-clause-unchanged c = if_not_ok c.from_residual-in_err-reply.result _ c.from_residual-in_err-reply.ensures.0

pub returns-in_err-reply-clause-receipt : goal.returns-in_err-reply-clause-receipt
returns-in_err-reply-clause-receipt c = if_not_ok c.from_residual-in_err-reply.result _ c.from_residual-in_err-reply.ensures.0

pub returns-in_err-reply-clause-group : goal.returns-in_err-reply-clause-group
returns-in_err-reply-clause-group c = ap opened c.self.view_is

pub invariant_of-self-in_err-told : goal.invariant_of-self-in_err-told
invariant_of-self-in_err-told c =
    let kept = by_growth (reply_of c.in_ok-reply.reply) _ c.in_err-told.ensures.want c.in_ok-reply.ensures.unchanged.exported c.in_ok-reply.ensures.unchanged.kept in
    rw (c.in_ok-reserve.ensures.items, kept) c.self.invariant

pub returns-in_err-told-clause-kept : goal.returns-in_err-told-clause-kept
returns-in_err-told-clause-kept c =
    let kept = by_growth (reply_of c.in_ok-reply.reply) _ c.in_err-told.ensures.want c.in_ok-reply.ensures.unchanged.exported c.in_ok-reply.ensures.unchanged.kept in
    rw (c.in_ok-reserve.ensures.items, kept) (on_err c.from_residual-in_err-told.result _ c.self.view_is)

pub returns-in_err-told-clause-history : goal.returns-in_err-told-clause-history
returns-in_err-told-clause-history c = if_not_ok c.from_residual-in_err-told.result _ c.from_residual-in_err-told.ensures.0

pub returns-in_err-told-clause-world : goal.returns-in_err-told-clause-world
returns-in_err-told-clause-world c = if_not_ok c.from_residual-in_err-told.result _ c.from_residual-in_err-told.ensures.0

pub returns-in_err-told-clause-unchanged : goal.returns-in_err-told-clause-unchanged
returns-in_err-told-clause-unchanged c = if_not_ok c.from_residual-in_err-told.result _ c.from_residual-in_err-told.ensures.0

pub returns-in_err-told-clause-receipt : goal.returns-in_err-told-clause-receipt
returns-in_err-told-clause-receipt c = if_not_ok c.from_residual-in_err-told.result _ c.from_residual-in_err-told.ensures.0

pub returns-in_err-told-clause-group : goal.returns-in_err-told-clause-group
returns-in_err-told-clause-group c = ap opened c.self.view_is

pub invariant_of-self-2 : goal.invariant_of-self-2
invariant_of-self-2 c =
    let b = c.self.inside in
    rw (c.push_reserved.ensures.items, c.in_ok-reserve.ensures.items, map-append)
    (legal_more (opening b.voters b.observers b.agents (arc_value b.sheet) (arc_value b.issuer)) b.world c.step.new.self (map entry_of b.history.items)
    (record { who = c.args.who; event = event_of c.args.event; reply = reply_of c.in_ok-reply.reply }) c.self.invariant c.in_ok-reply.ensures.ok)

abbrev written : Worker → Event → List Entry → Reply → List Entry
written who event before reply = before ++ record { who = who; event = event; reply = reply } ∷ []

pub returns-clause-history : goal.returns-clause-history
returns-clause-history c =
    let before = ap (λ (b : Book). b.history) c.self.view_is in
    let told = ap (λ (o : Outcome). o.0) c.in_ok-reply.ensures.ok ∙ ap (λ (b : Book). (step b.world (event_of c.args.event)).0) c.self.view_is in
    rw (c.push_reserved.ensures.items, c.in_ok-reserve.ensures.items, map-append) (ap₂ (written c.args.who (event_of c.args.event)) before told)

pub returns-clause-world : goal.returns-clause-world
returns-clause-world c = ap (λ (o : Outcome). o.1) c.in_ok-reply.ensures.ok ∙ ap (λ (b : Book). (step b.world (event_of c.args.event)).1) c.self.view_is

pub returns-clause-unchanged : goal.returns-clause-unchanged
returns-clause-unchanged c =
    subst (λ (b : Book). IsUnchangedAt (reply_of c.in_ok-told.told) b.world c.step.new.self) c.self.view_is
    (rw c.in_ok-told.ensures.copy c.in_ok-reply.ensures.unchanged)

pub returns-clause-group : goal.returns-clause-group
returns-clause-group c = ap opened c.self.view_is

abbrev told_at : ℕ → Reply → Told
told_at index reply = record { index = index; reply = reply }

pub returns-clause-receipt : goal.returns-clause-receipt
returns-clause-receipt c =
    let items = c.self.inside.history.items in
    let before = ap (λ (b : Book). length b.history) c.self.view_is in
    let index : c.len-index.result ≡ length c.args.self.now.history =
    omega (arith, c.len-index.ensures, c.in_ok-reserve.ensures.len, c.self.inside.history.ok.0, length-map items entry_of, before) in
    let told = ap (λ (o : Outcome). o.0) c.in_ok-reply.ensures.ok ∙ ap (λ (b : Book). (step b.world (event_of c.args.event)).0) c.self.view_is in
    ap₂ told_at index (c.in_ok-told.ensures.copy ∙ told)
