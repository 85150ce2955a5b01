use Rattle.std.proofs.Common.{◌≡◌, ap, ◌∙◌, codes, IfOk, subst}
use Rattle.clap.specs.Words.{App, app_of, Rule, with_rule}
use Rattle.command_line.specs.CommandLine.{number_option, required}
use Rattle.command_line.proofs.grammar.threads_grammar.Goals as goal

-- each call adds its option to what the command was
pub returns-clause-app : goal.returns-clause-app
returns-clause-app c =
    let nodes : Rule = required (number_option (codes "nodes") 1 9) in
    let agents : Rule = required (number_option (codes "agents") 1 9) in
    let batches : Rule = required (number_option (codes "batches") 1 99) in
    let periods : Rule = required (number_option (codes "periods") 1 12) in
    let one = c.in-Ok.ensures.app ∙ ap (λ (a : App). with_rule a nodes) c.plain_grammar-threads.ensures.app in
    let two = c.in-Ok-counting.ensures.app ∙ ap (λ (a : App). with_rule a agents) one in
    let three = c.in-Ok-counting-2.ensures.app ∙ ap (λ (a : App). with_rule a batches) two in
    subst (λ (a : App). IfOk c.counting-4.result (λ g. app_of g ≡ a)) (ap (λ (a : App). with_rule a periods) three) c.counting-4.ensures.app
