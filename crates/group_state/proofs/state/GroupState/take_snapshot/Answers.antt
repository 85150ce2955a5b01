use Rattle.std.proofs.Common.{ap, ap₂, ◌∙◌}
use Rattle.std.proofs.lemmas.Result.{IfOk-weaker}
use Rattle.metering_model.specs.World.{World}
use Rattle.metering_model.specs.Step.{cut_before}
use Rattle.journal_rules.specs.Stores.{Stored}
use Rattle.group_events.proofs.Parts.{same_parts}
use Rattle.group_state.proofs.state.GroupState.take_snapshot.Goals as goal

pub returns : goal.returns
returns c =
    let agents = c.requires.among in
    let from = c.in_ok-from.ensures ∙ ap₂ (λ a p. cut_before a c.args.node.now.node.kept.learned p) agents c.number.ensures.value in
    let sheet = c.in_ok-sheet.ensures ∙ ap (λ (w : World). w.sheet) c.self.view_is in
    let issuer = c.in_ok-issuer.ensures ∙ ap (λ (w : World). w.issuer) c.self.view_is in
    IfOk-weaker c.of.result _ _ (λ taken is. is ∙ same_parts c.args.period _ _ _ _ _ _ _ _ _ _ from c.in_ok-to.ensures (ap (λ (s : Stored). s.batches) c.store.ensures) sheet issuer) c.of.ensures
