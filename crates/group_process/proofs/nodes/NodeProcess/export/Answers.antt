use Rattle.std.proofs.Common.{ap, sym, ◌∙◌}
use Rattle.std.specs.Prelude.{slice_get}
use Rattle.std.specs.Arc.{arc_value}
use Rattle.metering_model.specs.Step.{first_missing}
use Rattle.group_process.specs.Selves.{NodeSelf}
use Rattle.group_process.proofs.nodes.NodeProcess.export.Goals as goal

pub export_up_to-requires : goal.export_up_to-requires
export_up_to-requires c =
    let to = arc_value c.in-Ok.found.1.now in
    record {
      of = c.in-Ok.ensures.found.0;
      learned = sym (ap (λ (n : NodeSelf). slice_get n.node.kept.learned c.args.period) c.self.view_is) ∙ c.in-Ok.ensures.whole.0;
      whole = sym (ap (λ (n : NodeSelf). first_missing n.node.kept.holding to) c.self.view_is) ∙ c.in-Ok.ensures.whole.1;
    }
