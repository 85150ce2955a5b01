use Rattle.std.proofs.Common.{◌≡◌, ap, ap₂, ◌∙◌, IfOk, subst}
use Rattle.clap.specs.Words.{App, app_of, rule_of, with_rule}
use Rattle.command_line.specs.CommandLine.{required}
use Rattle.command_line.proofs.grammar.period_grammar.Goals as goal

pub returns-clause-app : goal.returns-clause-app
returns-clause-app c =
    let period = ap rule_of c.required-period.ensures ∙ ap required c.number_option.ensures.rule in
    subst (λ (a : App). IfOk c.taking.result (λ g. app_of g ≡ a)) (ap₂ with_rule c.plain_grammar.ensures.app period) c.taking.ensures.app
