use Rattle.std.proofs.Common.{sym, ◌∙◌}
use Rattle.group_state.proofs.Outcomes.{exported_told, refused_told}
use Rattle.group_state.proofs.state.GroupState.export.Goals as goal

pub returns-in-Ok : goal.returns-in-Ok
returns-in-Ok c = exported_told c.args.self.now c.args.node c.args.period c.in-Ok.snapshot (sym c.in_ok-snapshot.ensures ∙ c.in-Ok.is)

pub returns-in-Err : goal.returns-in-Err
returns-in-Err c = refused_told c.args.self.now c.args.node c.args.period c.in-Err.refusal (sym c.in_ok-snapshot.ensures ∙ c.in-Err.is)
