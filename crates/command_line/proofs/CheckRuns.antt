-- What `check` comes to at a fault, and where it says something.
use Rattle.std.proofs.Common.{◌≡◌, ◌≢◌, ◌++◌, ◌∙◌, ap, ℕ, List, Option, inl, inr, refl, arith}
use Rattle.std.specs.Io.KnownBytes.{Appends}
use Rattle.counted_io.specs.Counts.{count_after}
use Rattle.counted_io.specs.declared.writing.Sink.{Ghosts as SinkOf}
use Rattle.program_input.specs.declared.faults.PlayFault.{PlayFault}
use Rattle.program_input.specs.declared.faults.PlayFault.TheVariants as play
use Rattle.program_input.specs.declared.ScheduleFault.TheVariants as section
use Rattle.program_input.specs.Faults.{tells_of_reader, tells_of_writer}
use Rattle.metering_model.specs.Transcript.{line_count}
use Rattle.metering_model.specs.declared.Refusal.{Refusal}
use Rattle.program_input.specs.declared.ScheduleFault.{ScheduleFault}
use Rattle.command_line.specs.declared.commands.Kind.{Kind}
use Rattle.command_line.specs.declared.commands.Command.TheVariants.{Check}
use Rattle.command_line.specs.declared.statuses.Fault.TheVariants.{Play, Faults}
use Rattle.command_line.specs.Endings.{status_of}
use Rattle.command_line.specs.Runs.{IsChecked, IsDoneInPart, Says}
use Rattle.command_line.specs.Inner.Outcomes.{ComesTo}
use Rattle.command_line.proofs.PlayRuns.{comes_to, failed}

-- something is refused, and the lines that say so were written
pub says : {W : Type 0} (sink : SinkOf W) (kind : Option Kind) (count : ℕ) (known : Option (List ℕ)) (reads reads' : ℕ) (writer writer' : W)
    → count ≢ 0 → reads' ≡ reads → sink.failed_calls writer' ≡ sink.failed_calls writer
    → (input said warned : List ℕ) × IsChecked kind known input said warned × Appends (sink.contents writer) (sink.contents writer') (said ++ warned) × (count ≡ line_count said)
    → ComesTo sink (Check kind) (Faults count) known reads reads' writer writer'
says sink kind count known reads reads' writer writer' some read wrote said =
    let it : Says (Check kind) (Faults count) known (sink.contents writer) (sink.contents writer') =
    (said.0, said.1, said.2, said.3, (λ none. some (said.5 ∙ ap line_count none)), ap Faults said.5, said.4) in
    record {
      understood = λ two. absurd (omega (arith, two));
      refused = λ one. inr it;
      device = λ three. absurd (omega (arith, three));
      calm = λ other. (read, wrote);
      unwritten = λ not_3 not_4. inr it;
      part = λ four. absurd (omega (arith, four));
    }

-- no section is refused, and no batch
unrefused : (Refused : Type 0) (fault : PlayFault) → status_of (Play fault) ≡ 1 → ((bad : ScheduleFault) → fault ≢ play.Schedule bad) → ((refusal : Refusal) → fault ≢ play.Refused refusal) → Refused
unrefused Refused play.Read one section batch = absurd (cc)
unrefused Refused play.Write one section batch = absurd (cc)
unrefused Refused play.OutOfMemory one section batch = absurd (cc)
unrefused Refused (play.Refused refusal) one section batch = absurd (batch refusal refl)
unrefused Refused (play.Schedule bad) one section batch = absurd (section bad refl)

-- what `check` comes to where it has nothing to say
pub check_comes_to : {W : Type 0} (sink : SinkOf W) (kind : Option Kind) (fault : PlayFault) (known : Option (List ℕ)) (reads reads' : ℕ) (writer writer' : W)
    → reads' ≡ count_after (tells_of_reader (failed fault)) reads
    → sink.failed_calls writer' ≡ count_after (tells_of_writer (failed fault)) (sink.failed_calls writer)
    → (fault ≢ play.Write → writer' ≡ writer)
    → ((bad : ScheduleFault) → fault ≢ play.Schedule bad) → ((refusal : Refusal) → fault ≢ play.Refused refusal)
    → (fault ≡ play.Write → IsDoneInPart (Check kind) known (sink.contents writer) (sink.contents writer'))
    → ComesTo sink (Check kind) (Play fault) known reads reads' writer writer'
check_comes_to sink kind fault known reads reads' writer writer' read wrote same no_section batch cut =
    comes_to sink (Check kind) fault known reads reads' writer writer' read wrote (λ no_write no_memory. same no_write)
    (λ one. unrefused _ fault one no_section batch) (λ one kept. kept) (no_section section.OutOfMemory)
    (λ is. inl (same (λ write. absurd (cc)))) cut
