use Rattle.std.proofs.Common.{Bool, ◌||◌, ap₂, ◌∙◌}
use Rattle.std.proofs.lemmas.Result.{IfOk-weaker}
use Rattle.command_line.proofs.grammar.taking.Goals as goal

pub returns-clause-app : goal.returns-clause-app
returns-clause-app c = IfOk-weaker c.arg.result _ _ (λ command adds. adds.shape c.requires.local.1) c.arg.ensures

pub returns-clause-local : goal.returns-clause-local
returns-clause-local c =
    IfOk-weaker c.arg.result _ _ (λ command adds. adds.globals ∙ ap₂ (λ (a b : Bool). a || b) c.requires.local.0 c.requires.local.1) c.arg.ensures
