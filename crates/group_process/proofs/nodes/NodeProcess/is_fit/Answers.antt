use Rattle.std.proofs.Common.{List, ◌+◌, take, ap, ap₂, refl, sym, ◌∙◌}
use Rattle.std.specs.Prelude.{slice_get}
use Rattle.metering_model.specs.Cut.{Cut, zero_cut}
use Rattle.metering_model.specs.Holding.{Holding}
use Rattle.metering_model.specs.Step.{first_missing}
use Rattle.journal_rules.specs.Stores.{Stored}
use Rattle.process_laws.specs.LocalSteps.{are_growing}
use Rattle.group_process.specs.Selves.{NodeSelf}
use Rattle.group_process.proofs.Exports.{fit_told}
use Rattle.group_process.proofs.Growing.{learned_size, period_within}
use Rattle.group_process.proofs.nodes.NodeProcess.is_fit.Goals as goal

pub has_growing_cuts-requires : goal.has_growing_cuts-requires
has_growing_cuts-requires c =
    let learned = ap (λ (n : NodeSelf). n.node.kept.learned) c.self.view_is in
    period_within _ c.args.period _ (ap (λ (cuts : List Cut). slice_get cuts c.args.period) learned ∙ c.requires.learned)

pub first_broken_up_to-requires-clause-agents : goal.first_broken_up_to-requires-clause-agents
first_broken_up_to-requires-clause-agents c =
    let learned = ap (λ (n : NodeSelf). n.node.kept.learned) c.self.view_is in
    let found = ap (λ (cuts : List Cut). slice_get cuts c.args.period) learned ∙ c.requires.learned in
    learned_size _ _ _ _ c.voters.ensures.within.kept.cuts found ∙ sym (ap (λ (s : Stored). s.agents) c.store.ensures)

pub first_broken_up_to-requires-clause-whole : goal.first_broken_up_to-requires-clause-whole
first_broken_up_to-requires-clause-whole c =
    let holding = ap (λ (s : Stored). s.batches) c.store.ensures ∙ ap (λ (n : NodeSelf). n.node.kept.holding) c.self.view_is in
    ap (λ (h : Holding). first_missing h c.args.to.now) holding ∙ c.requires.whole

pub returns-then-has_growing_cuts : goal.returns-then-has_growing_cuts
returns-then-has_growing_cuts c =
    let n = c.args.self.now in
    let holding = ap (λ (s : Stored). s.batches) c.store.ensures ∙ ap (λ (n : NodeSelf). n.node.kept.holding) c.self.view_is in
    let learned = ap (λ (n : NodeSelf). n.node.kept.learned) c.self.view_is in
    let agents = c.self.invariant.1 ∙ ap (λ (n : NodeSelf). n.group.agents) c.self.view_is in
    let grow = c.has_growing_cuts.ensures ∙ ap₂ (λ a (cuts : List Cut). are_growing (zero_cut a) (take (c.args.period + 1) cuts)) agents learned in
    let sheet = c.deref.ensures ∙ (c.sheet.ensures ∙ ap (λ (n : NodeSelf). n.group.sheet) c.self.view_is) in
    fit_told n.group n.node c.args.period c.args.to.now _ _ c.first_broken_up_to.result c.has_growing_cuts.result c.is_none.result grow c.if-has_growing_cuts.true c.first_broken_up_to.ensures c.is_none.ensures sheet holding

pub returns-else-has_growing_cuts : goal.returns-else-has_growing_cuts
returns-else-has_growing_cuts c =
    let learned = ap (λ (n : NodeSelf). n.node.kept.learned) c.self.view_is in
    let agents = c.self.invariant.1 ∙ ap (λ (n : NodeSelf). n.group.agents) c.self.view_is in
    let grow = c.has_growing_cuts.ensures ∙ ap₂ (λ a (cuts : List Cut). are_growing (zero_cut a) (take (c.args.period + 1) cuts)) agents learned in
    rw (← grow, c.if-has_growing_cuts.false) refl
