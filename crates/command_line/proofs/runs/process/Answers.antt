use Rattle.std.proofs.Common.{Err, ap}
use Rattle.process_player.proofs.Answered.{has_answered}
use Rattle.command_line.proofs.ProcessRuns.{process_comes_to}
use Rattle.command_line.proofs.runs.process.Goals as goal

pub returns-in-Err : goal.returns-in-Err
returns-in-Err g c =
    let known = g.R.Source.remaining c.args.reader.now in
    let told = c.in-Err.ensures in
    record {
      outcome =
          process_comes_to g.W.Sink c.args.kind c.in-Err.fault known _ _ _ _ told.calls.reads told.calls.writes told.kept
          (λ other. has_answered c.args.kind known _ _ _ (told.whole other)) (λ is. (_, told.torn (ap Err is))) told.refused;
    }
