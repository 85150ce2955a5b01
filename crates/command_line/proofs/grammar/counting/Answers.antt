use Rattle.std.proofs.Common.{◌≡◌, ap, ◌∙◌, IfOk, subst}
use Rattle.clap.specs.Words.{App, app_of, Rule, rule_of, with_rule}
use Rattle.command_line.specs.CommandLine.{required}
use Rattle.command_line.proofs.grammar.counting.Goals as goal

pub returns-clause-app : goal.returns-clause-app
returns-clause-app c =
    let count = ap rule_of c.required-count.ensures ∙ ap required c.number_option.ensures.rule in
    subst (λ (a : App). IfOk c.taking.result (λ g. app_of g ≡ a)) (ap (λ (o : Rule). with_rule (app_of c.args.command) o) count) c.taking.ensures.app
