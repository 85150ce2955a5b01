use Rattle.std.proofs.Common.{[], ◌∷◌, sym, subst, string_bytes}
use Rattle.std.proofs.lemmas.Result.{IfOk-weaker}
use Rattle.clap.specs.Words.{App, app_of}
use Rattle.command_line.specs.Inner.Grammars.{StandsIn, with_one}
use Rattle.command_line.proofs.GrammarLaws.{at_first, at_none, none_stands_in}
use Rattle.command_line.proofs.grammar.needed.Goals as goal

pub returns-in-Some : goal.returns-in-Some
returns-in-Some c = record {
  app =
      IfOk-weaker c.named.result _ _
      (λ command stands. at_first string_bytes (StandsIn (with_one (app_of command))) c.args.words.now c.in-Some.word.now c.in-Some.ensures.value (λ rest. subst (λ w. StandsIn (with_one (app_of command)) (w ∷ rest)) c.as_str.ensures.value (stands rest)))
      c.named.ensures.app;
  local = c.named.ensures.local;
}

pub returns-in-None : goal.returns-in-None
returns-in-None c = record {
  app =
      IfOk-weaker c.period_grammar.result _ _
      (λ command same. at_none string_bytes (StandsIn (with_one (app_of command))) c.args.words.now c.in-None.ensures.value (subst (λ (a : App). StandsIn (with_one a) []) (sym same) none_stands_in))
      c.period_grammar.ensures.app;
  local = c.period_grammar.ensures.local;
}
