-- What `schedule` comes to at a fault.
use Rattle.std.proofs.Common.{◌≡◌, ◌≢◌, ℕ, List, Vec, Option, Result, Err, IfSome, inl, inr, refl, arith}
use Rattle.std.specs.declared.alloc.Global.{Global}
use Rattle.counted_io.specs.Counts.{count_after}
use Rattle.counted_io.specs.declared.writing.Sink.{Ghosts as SinkOf}
use Rattle.program_input.specs.declared.faults.PlayFault.TheVariants as play
use Rattle.schedule_writer.specs.Faults.{tells_of_reader as schedule_read, tells_of_writer as schedule_wrote}
use Rattle.schedule_writer.specs.Refusals.{IsRefused, IsTaken}
use Rattle.schedule_writer.specs.declared.asked.Request.{Request}
use Rattle.schedule_writer.specs.declared.faults.WriteFault.{WriteFault}
use Rattle.schedule_writer.specs.declared.faults.WriteFault.TheVariants as written
use Rattle.command_line.specs.Inner.Faults.{fault_of_schedule}
use Rattle.command_line.specs.declared.commands.Command.TheVariants.{Schedule as WriteSchedule}
use Rattle.command_line.specs.declared.statuses.Fault.{Fault}
use Rattle.command_line.specs.declared.statuses.Fault.TheVariants.{Refused, TooLong, NotClosed}
use Rattle.command_line.specs.Endings.{status_of}
use Rattle.command_line.specs.Runs.{IsDoneInPart, Refuses}
use Rattle.command_line.specs.Inner.Outcomes.{ComesTo}
use Rattle.command_line.proofs.PlayRuns.{comes_to}

-- a schedule is refused, and nothing was written
pub unscheduled : {W : Type 0} (sink : SinkOf W) (request : Request) (fault : Fault) (known : Option (List ℕ)) (reads reads' : ℕ) (writer writer' : W)
    → status_of fault ≡ 1 → reads' ≡ reads → sink.failed_calls writer' ≡ sink.failed_calls writer → writer' ≡ writer
    → Refuses (WriteSchedule request) known fault → ComesTo sink (WriteSchedule request) fault known reads reads' writer writer'
unscheduled sink request fault known reads reads' writer writer' one read wrote same refused = record {
  understood = λ two. absurd (omega (arith, one, two));
  refused = λ is. inl (refused, same);
  device = λ three. absurd (omega (arith, one, three));
  calm = λ other. (read, wrote);
  unwritten = λ not_3 not_4. inl (inl same);
  part = λ four. absurd (omega (arith, one, four));
}

abbrev pub not_written : WriteFault → Result (Unit {0}) WriteFault
not_written fault = Err fault

pub schedule_comes_to : {W : Type 0} (sink : SinkOf W) (request : Request) (fault : WriteFault) (known : Option (List ℕ)) (reads reads' : ℕ) (writer writer' : W)
    → reads' ≡ count_after (schedule_read (not_written fault)) reads
    → sink.failed_calls writer' ≡ count_after (schedule_wrote (not_written fault)) (sink.failed_calls writer)
    → (fault ≢ written.Write → writer' ≡ writer)
    → ((told : Vec ℕ Global) → fault ≡ written.Refused told → IfSome known (λ input. IsRefused input told.items))
    → (fault ≡ written.TooLong → IfSome known IsTaken) → (fault ≡ written.NotClosed → IfSome known IsTaken)
    → (fault ≡ written.Write → IsDoneInPart (WriteSchedule request) known (sink.contents writer) (sink.contents writer'))
    → ComesTo sink (WriteSchedule request) (fault_of_schedule fault) known reads reads' writer writer'
schedule_comes_to sink request written.Read known reads reads' writer writer' read wrote same refused long unclosed cut =
    comes_to sink (WriteSchedule request) play.Read known reads reads' writer writer' read wrote (λ no_write no_memory. same (λ is. absurd (cc)))
    (λ one. absurd (cc)) (λ one kept. kept) (λ is. absurd (cc)) (λ is. absurd (cc)) (λ is. absurd (cc))
schedule_comes_to sink request (written.Refused told) known reads reads' writer writer' read wrote same refused long unclosed cut =
    unscheduled sink request (Refused told) known reads reads' writer writer' refl read wrote (same (λ is. absurd (cc)))
    (inl (told, refl, refused told refl))
schedule_comes_to sink request written.TooLong known reads reads' writer writer' read wrote same refused long unclosed cut =
    unscheduled sink request TooLong known reads reads' writer writer' refl read wrote (same (λ is. absurd (cc))) (inr (inl refl, long refl))
schedule_comes_to sink request written.NotClosed known reads reads' writer writer' read wrote same refused long unclosed cut =
    unscheduled sink request NotClosed known reads reads' writer writer' refl read wrote (same (λ is. absurd (cc))) (inr (inr refl, unclosed refl))
schedule_comes_to sink request written.Write known reads reads' writer writer' read wrote same refused long unclosed cut =
    comes_to sink (WriteSchedule request) play.Write known reads reads' writer writer' read wrote (λ no_write no_memory. absurd (no_write refl))
    (λ one. absurd (cc)) (λ one kept. kept) (λ is. absurd (cc)) (λ is. absurd (cc)) (λ is. cut refl)
schedule_comes_to sink request written.OutOfMemory known reads reads' writer writer' read wrote same refused long unclosed cut =
    comes_to sink (WriteSchedule request) play.OutOfMemory known reads reads' writer writer' read wrote (λ no_write no_memory. absurd (no_memory refl))
    (λ one. absurd (cc)) (λ one kept. kept) (λ is. absurd (cc)) (λ is. inl (same (λ write. absurd (cc)))) (λ is. absurd (cc))
