use Rattle.std.proofs.Common.{◌∷◌, codes, subst, sym}
use Rattle.std.proofs.lemmas.Result.{IfOk-weaker}
use Rattle.clap.specs.Words.{App, new_app}
use Rattle.command_line.specs.CommandLine.{check_grammar, period_grammar, schedule_grammar, sheets_grammar, threads_grammar}
use Rattle.command_line.specs.Inner.Grammars.{StandsIn, with_one}
use Rattle.command_line.proofs.GrammarLaws.{agent_stands_in, check_stands_in, command_stands_in, file_stands_in, node_stands_in, other_stands_in, play_stands_in, result_stands_in, schedule_stands_in, sheets_stands_in, threads_stands_in}
use Rattle.command_line.proofs.grammar.named.Goals as goal

pub returns-in-play : goal.returns-in-play
returns-in-play c = record {
  app = command_stands_in (new_app (codes "play")) (codes "play") c.args.name.now c.plain_grammar.result play_stands_in c.in-play.is c.plain_grammar.ensures.app;
  local = c.plain_grammar.ensures.local;
}

pub returns-in-check : goal.returns-in-check
returns-in-check c = record {
  app = result_stands_in check_grammar (codes "check") c.args.name.now c.check_grammar.result check_stands_in c.in-check.is c.check_grammar.ensures.app;
  local = c.check_grammar.ensures.local;
}

pub returns-in-file : goal.returns-in-file
returns-in-file c = record {
  app = result_stands_in (period_grammar (codes "file")) (codes "file") c.args.name.now c.period_grammar.result file_stands_in c.in-file.is c.period_grammar.ensures.app;
  local = c.period_grammar.ensures.local;
}

pub returns-in-schedule : goal.returns-in-schedule
returns-in-schedule c = record {
  app = result_stands_in schedule_grammar (codes "schedule") c.args.name.now c.schedule_grammar.result schedule_stands_in c.in-schedule.is c.schedule_grammar.ensures.app;
  local = c.schedule_grammar.ensures.local;
}

pub returns-in-sheets : goal.returns-in-sheets
returns-in-sheets c = record {
  app = result_stands_in sheets_grammar (codes "sheets") c.args.name.now c.sheets_grammar.result sheets_stands_in c.in-sheets.is c.sheets_grammar.ensures.app;
  local = c.sheets_grammar.ensures.local;
}

pub returns-in-threads : goal.returns-in-threads
returns-in-threads c = record {
  app = result_stands_in threads_grammar (codes "threads") c.args.name.now c.threads_grammar.result threads_stands_in c.in-threads.is c.threads_grammar.ensures.app;
  local = c.threads_grammar.ensures.local;
}

pub returns-in-node : goal.returns-in-node
returns-in-node c = record {
  app = command_stands_in (new_app (codes "node")) (codes "node") c.args.name.now c.explained.result node_stands_in c.in-node.is c.explained.ensures.app;
  local = c.explained.ensures.local;
}

pub returns-in-agent : goal.returns-in-agent
returns-in-agent c = record {
  app = command_stands_in (new_app (codes "agent")) (codes "agent") c.args.name.now c.explained-in-agent.result agent_stands_in c.in-agent.is c.explained-in-agent.ensures.app;
  local = c.explained-in-agent.ensures.local;
}

pub returns-in_default : goal.returns-in_default
returns-in_default c =
    let no = c.in_default in
    record {
      app =
          IfOk-weaker c.period_grammar-in_default.result _ _
          (λ command same rest. subst (λ (a : App). StandsIn (with_one a) (c.args.name.now ∷ rest)) (sym same) (other_stands_in c.args.name.now rest no.not-play no.not-check no.not-file no.not-schedule no.not-sheets no.not-threads no.not-node no.not-agent))
          c.period_grammar-in_default.ensures.app;
      local = c.period_grammar-in_default.ensures.local;
    }
