use Rattle.std.proofs.Common.{◌≡◌, ap, ap₂, ◌∙◌, codes, IfOk, subst}
use Rattle.clap.specs.Words.{App, app_of, rule_of, with_rule}
use Rattle.command_line.specs.CommandLine.{defaulting_to}
use Rattle.command_line.proofs.grammar.schedule_grammar.Goals as goal

pub returns-clause-app : goal.returns-clause-app
returns-clause-app c =
    let nodes = ap rule_of c.default_value-nodes.ensures ∙ ap (defaulting_to (codes "3")) c.number_option.ensures.rule in
    let observers = ap rule_of c.default_value-observers.ensures ∙ ap (defaulting_to (codes "0")) c.number_option-2.ensures.rule in
    let one = c.in-Ok.ensures.app ∙ ap₂ with_rule c.plain_grammar.ensures.app nodes in
    let two = c.in-Ok-taking.ensures.app ∙ ap₂ with_rule one observers in
    subst (λ (a : App). IfOk c.taking-3.result (λ g. app_of g ≡ a)) (ap₂ with_rule two c.number_option-through.ensures.rule) c.taking-3.ensures.app
