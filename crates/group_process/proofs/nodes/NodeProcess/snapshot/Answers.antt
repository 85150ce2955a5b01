use Rattle.std.proofs.Common.{List, length, ap, subst, sym, ◌∙◌}
use Rattle.std.specs.Prelude.{slice_get}
use Rattle.std.proofs.lemmas.Result.{IfOk-weaker}
use Rattle.metering_model.specs.Cut.{Cut}
use Rattle.metering_model.specs.Holding.{IsHolding}
use Rattle.journal_rules.specs.Stores.{Stored}
use Rattle.group_process.specs.Selves.{NodeSelf}
use Rattle.group_events.proofs.Parts.{same_parts}
use Rattle.group_process.proofs.Exports.{fit_grows, fit_meets}
use Rattle.group_process.proofs.Growing.{learned_size}
use Rattle.group_process.proofs.nodes.NodeProcess.snapshot.Goals as goal

pub of-requires-clause-agents : goal.of-requires-clause-agents
of-requires-clause-agents c =
    let learned = ap (λ (n : NodeSelf). n.node.kept.learned) c.self.view_is in
    let found = ap (λ (cuts : List Cut). slice_get cuts c.args.of) learned ∙ c.requires.learned in
    let size = learned_size _ _ _ _ c.voters.ensures.within.kept.cuts found in
    ap length c.in-Ok.ensures ∙ (size ∙ sym (ap (λ (s : Stored). s.agents) c.store-store.ensures))

pub of-requires-clause-grows : goal.of-requires-clause-grows
of-requires-clause-grows c =
    let w = c.args.self.now in
    rw (c.in-Ok.ensures, c.requires.from) (fit_grows w.group w.node c.args.of _ c.requires.fit c.requires.learned)

pub of-requires-clause-whole : goal.of-requires-clause-whole
of-requires-clause-whole c =
    let holding = ap (λ (s : Stored). s.batches) c.store-store.ensures ∙ ap (λ (n : NodeSelf). n.node.kept.holding) c.self.view_is in
    rw (c.in-Ok.ensures, holding) c.requires.whole

pub of-requires-clause-met : goal.of-requires-clause-met
of-requires-clause-met c =
    let w = c.args.self.now in
    let holding = ap (λ (s : Stored). s.batches) c.store-store.ensures ∙ ap (λ (n : NodeSelf). n.node.kept.holding) c.self.view_is in
    let sheet = c.in-Ok-try_clone.ensures ∙ (c.sheet.ensures ∙ ap (λ (n : NodeSelf). n.group.sheet) c.self.view_is) in
    rw (sheet, c.in-Ok.ensures, holding) (fit_meets w.group w.node c.args.of _ c.requires.fit (subst IsHolding holding c.agents.ensures.stored.is_holding) c.requires.whole)

pub returns : goal.returns
returns c =
    let holding = ap (λ (s : Stored). s.batches) c.store-store.ensures ∙ ap (λ (n : NodeSelf). n.node.kept.holding) c.self.view_is in
    let sheet = c.in-Ok-try_clone.ensures ∙ (c.sheet.ensures ∙ ap (λ (n : NodeSelf). n.group.sheet) c.self.view_is) in
    let issuer = c.in-Ok-try_clone-2.ensures ∙ (c.issuer.ensures ∙ ap (λ (n : NodeSelf). n.group.issuer) c.self.view_is) in
    IfOk-weaker c.of.result _ _ (λ s e. e ∙ same_parts _ _ _ _ _ _ _ _ _ _ _ c.requires.from c.in-Ok.ensures holding sheet issuer) c.of.ensures
