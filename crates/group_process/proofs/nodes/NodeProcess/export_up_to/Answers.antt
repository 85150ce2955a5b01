use Rattle.std.proofs.Common.{ap, ap₂, sym, ◌∙◌}
use Rattle.std.specs.Arc.{arc_value}
use Rattle.metering_model.specs.Step.{cut_before}
use Rattle.group_process.specs.Selves.{NodeSelf}
use Rattle.group_process.proofs.Exports.{exported_told, unfit_told}
use Rattle.group_process.proofs.nodes.NodeProcess.export_up_to.Goals as goal

pub is_fit-requires : goal.is_fit-requires
is_fit-requires c = record {
  learned = rw (c.deref.ensures) c.requires.learned;
  whole = rw (c.deref.ensures) c.requires.whole;
}

pub returns-then-not-is_fit : goal.returns-then-not-is_fit
returns-then-not-is_fit c =
    let n = c.args.self.now in
    unfit_told n.group n.node c.args.period (arc_value c.args.to.now) c.requires.learned c.requires.whole (rw (← c.deref.ensures) (sym c.is_fit.ensures ∙ c.if-not-is_fit.true))

pub snapshot-requires : goal.snapshot-requires
snapshot-requires c = record {
  from = let learned = ap (λ (n : NodeSelf). n.node.kept.learned) c.self.view_is in
      let agents = c.self.invariant.1 ∙ ap (λ (n : NodeSelf). n.group.agents) c.self.view_is in
      rw (c.requires.of) (c.in-Ok.ensures ∙ ap₂ (λ a cuts. cut_before a cuts c.args.period) agents learned);
  learned = rw (c.requires.of) c.requires.learned;
  whole = c.requires.whole;
  fit = rw (c.requires.of, ← c.deref.ensures) (sym c.is_fit.ensures ∙ c.if-not-is_fit.false);
}

pub returns-in-Ok-snapshot : goal.returns-in-Ok-snapshot
returns-in-Ok-snapshot c =
    let n = c.args.self.now in
    let to = arc_value c.args.to.now in
    rw (c.in-Ok-snapshot.ensures, c.requires.of) (exported_told n.group n.node c.args.period to c.requires.learned c.requires.whole (rw (← c.deref.ensures) (sym c.is_fit.ensures ∙ c.if-not-is_fit.false)))
