use Rattle.std.proofs.Common.{IfOk, subst}
use Rattle.metering_model.specs.World.{World}
use Rattle.group_core.specs.Headline.{IsExportOf}
use Rattle.group_core.proofs.Calls.{exports_of_answer}
use Rattle.group_core.proofs.world.World.snapshot.Goals as goal

pub returns-clause-export : goal.returns-clause-export
returns-clause-export c =
    subst (λ (w : World). IfOk c.snapshot.result (λ answer. IfOk answer (λ taken. IsExportOf w taken))) c.self.view_is
    (exports_of_answer c.self.inside.state c.args.node c.args.period c.snapshot.result c.self.invariant c.snapshot.ensures)
