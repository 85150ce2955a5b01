use Rattle.std.proofs.Common.{refl}
use Rattle.command_line.specs.declared.commands.Command.TheVariants.{Threads}
use Rattle.command_line.proofs.WholeRuns.{ends, ends_from, nothing_read}
use Rattle.command_line.proofs.runs.run.Goals as goal

pub returns-in-Err : goal.returns-in-Err
returns-in-Err g c =
    let before = c.in-Err.ensures in
    let same = before.kept refl in
    let known = g.R.Source.remaining c.run_alone.new.reader in
    let reads = g.R.Source.failed_calls c.run_alone.new.reader in
    record {
      ended =
          ends_from g.R.Source g.W.Sink g.E.Sink c.args.args c.ended.result _ _ _ _ _ _ _ _ _ same.0 same.1 same.2
          (ends g.R.Source g.W.Sink g.E.Sink c.args.args (Threads c.in-Err.size) c.threads.result c.ended.result c.run_alone.new.reader c.run_alone.new.reader _ _ _ _
          before.threads (c.threads.ensures.outcome known reads) c.ended.ensures.ending (nothing_read 0 known) (λ without. refl));
    }
