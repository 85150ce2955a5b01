use Rattle.std.proofs.Common.{◌≡◌, ap₂, ◌∙◌, IfOk, subst}
use Rattle.clap.specs.Words.{App, app_of, with_rule}
use Rattle.command_line.proofs.grammar.sheets_grammar.Goals as goal

pub returns-clause-app : goal.returns-clause-app
returns-clause-app c =
    let one = c.in-Ok.ensures.app ∙ ap₂ with_rule c.explained-sheets.ensures.app c.text_option-before.ensures.rule in
    subst (λ (a : App). IfOk c.taking-2.result (λ g. app_of g ≡ a)) (ap₂ with_rule one c.flag-all.ensures.rule) c.taking-2.ensures.app
