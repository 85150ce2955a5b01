use Rattle.std.proofs.Common.{ap, ◌∙◌, sym, subst, map, string_bytes}
use Rattle.std.proofs.lemmas.Result.{IfOk-weaker}
use Rattle.clap.specs.Words.{App, app_of, with_subcommand}
use Rattle.command_line.specs.Inner.Grammars.{StandsIn}
use Rattle.command_line.proofs.grammar.grammar.Goals as goal

pub returns : goal.returns
returns c =
    let command = app_of c.in-Ok.command in
    let words = map string_bytes c.args.words.now in
    record {
      app =
          IfOk-weaker c.subcommand.result _ _
          (λ grammar adds. subst (λ (a : App). StandsIn a words) (sym (adds.shape c.in-Ok.ensures.local ∙ ap (λ (a : App). with_subcommand a command.top) c.in-Ok-bare_grammar.ensures.app)) c.in-Ok.ensures.app)
          c.subcommand.ensures;
    }
