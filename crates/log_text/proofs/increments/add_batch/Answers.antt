-- A batch of an agent that is there, which was not held, is taken.
use Rattle.std.proofs.Common.{◌≡◌, ◌≤◌, not, true, map, ap, subst, ◌∙◌, arith, le-leb}
use Rattle.std.specs.Arc.{arc_value}
use Rattle.std.specs.Option.{is_some}
use Rattle.std.proofs.lemmas.Bool.{and_from}
use Rattle.metering_model.specs.KeptText.{KeptAmong}
use Rattle.batch_store.specs.Batches.{batch_of}
use Rattle.batch_store.specs.Stores.{Stored}
use Rattle.log_text.specs.LogText.{Takes, among_with, goes_on}
use Rattle.log_text.proofs.KeptSteps.{added, batch_kept}
use Rattle.log_text.proofs.increments.add_batch.Goals as goal

pub returns : goal.returns
returns c =
    let b = batch_of (arc_value c.args.batch) in
    let inside = c.parts.inside in
    let agent = c.agent.ensures.value ∙ ap (λ t. (batch_of t).agent) (c.view.ensures ∙ c.deref.ensures) in
    let low : b.agent ≤ inside.store.agents = omega (arith, agent, c.agents.ensures.value) in
    let none = c.in-Ok.ensures.added.0 c.if-not-added.false in
    let goes = and_from _ _ (le-leb _ _ low) (ap (λ o. not (is_some o)) none) in
    let is =
    ap (λ (s : Stored). record { agents = s.agents; kept = record { round = inside.round; learned = map arc_value inside.learned.items; acceptor = inside.acceptor; holding = s.batches } }) c.in-Ok.ensures.batches
    ∙ ap (among_with (Takes b)) c.parts.view_is in
    added c.args.parts.now _ (Takes b) (subst (λ (x : KeptAmong). goes_on (Takes b) x ≡ true) c.parts.view_is goes) is (batch_kept c.args.parts.now b c.requires)
