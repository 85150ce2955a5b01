-- What help and the version come to.
use Rattle.std.proofs.Common.{◌≡◌, sym, subst, ℕ, List, Option, Result, Ok, Err, IfErr, OnErr, OnOk, is_err, inr, refl, arith}
use Rattle.counted_io.specs.Counts.{count_after, next_count}
use Rattle.counted_io.specs.declared.writing.Sink.{Ghosts as SinkOf}
use Rattle.program_input.specs.declared.faults.PlayFault.TheVariants as play
use Rattle.command_line.specs.declared.commands.Command.{Command}
use Rattle.command_line.specs.declared.statuses.Fault.{Fault}
use Rattle.command_line.specs.declared.statuses.Fault.TheVariants.{Play}
use Rattle.command_line.specs.Runs.{IsDone, IsDoneInPart}
use Rattle.command_line.specs.Inner.Outcomes.{ComesTo, Leaves}
use Rattle.command_line.proofs.PlayRuns.{is_no_line}

not_shown : {W : Type 0} (sink : SinkOf W) (command : Command) (known : Option (List ℕ)) (reads : ℕ) (writer writer' : W)
    → sink.failed_calls writer' ≡ next_count (sink.failed_calls writer) → IsDoneInPart command known (sink.contents writer) (sink.contents writer')
    → ComesTo sink command (Play play.Write) known reads reads writer writer'
not_shown sink command known reads writer writer' wrote cut = record {
  understood = is_no_line play.Write;
  refused = λ one. absurd (omega (arith, one));
  device = λ three. inr (refl, wrote, refl, cut);
  calm = λ other. absurd (other refl);
  unwritten = λ not_3 not_4. absurd (not_3 refl);
  part = λ four. absurd (omega (arith, four));
}

-- a text that is shown is what the command writes, and takes nothing of the input
pub shown : {W : Type 0} (sink : SinkOf W) (command : Command) (r : Result (Unit {0}) Fault) (known : Option (List ℕ)) (reads : ℕ) (writer writer' : W)
    → OnOk r (IsDone command known known (sink.contents writer) (sink.contents writer')) → OnErr r (IsDoneInPart command known (sink.contents writer) (sink.contents writer'))
    → IfErr r (λ fault. fault ≡ Play play.Write) → sink.failed_calls writer' ≡ count_after (is_err r) (sink.failed_calls writer)
    → Leaves sink command r known known reads reads writer writer'
shown sink command (Ok x) known reads writer writer' done part write count = record { done = done; calm = (refl, count) }
shown sink command (Err fault) known reads writer writer' done part write count =
    subst (λ (f : Fault). ComesTo sink command f known reads reads writer writer') (sym write) (not_shown sink command known reads writer writer' count part)
