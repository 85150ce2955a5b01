use Rattle.std.proofs.Common.{◌≡◌, ap₂, IfOk, subst}
use Rattle.clap.specs.Words.{App, app_of, with_rule}
use Rattle.command_line.proofs.grammar.check_grammar.Goals as goal

pub returns-clause-app : goal.returns-clause-app
returns-clause-app c =
    subst (λ (a : App). IfOk c.taking.result (λ g. app_of g ≡ a)) (ap₂ with_rule c.explained.ensures.app c.text_option-kind.ensures.rule) c.taking.ensures.app
