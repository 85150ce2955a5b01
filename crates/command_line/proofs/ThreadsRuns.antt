-- What `threads` comes to at a fault.
use Rattle.std.proofs.Common.{◌≡◌, ◌≢◌, ◌⊎◌, ◌∙◌, sym, ℕ, List, Option, Result, Err, inl, inr, refl, arith}
use Rattle.counted_io.specs.Counts.{count_after}
use Rattle.counted_io.specs.declared.writing.Sink.{Ghosts as SinkOf}
use Rattle.metering_model.specs.Sheet.{Sheet}
use Rattle.threads_player.specs.declared.faults.ThreadsFault.{ThreadsFault}
use Rattle.threads_player.specs.declared.faults.ThreadsFault.TheVariants as threads
use Rattle.threads_player.specs.Faults.{tells_of_writer as threads_wrote}
use Rattle.threads_player.specs.Runs.{IsSheetRefused}
use Rattle.threads_player.specs.declared.sizes.Size.{Size}
use Rattle.command_line.specs.declared.commands.Command.TheVariants.{Threads as RunThreads}
use Rattle.command_line.specs.declared.statuses.Fault.TheVariants.{Threads}
use Rattle.command_line.specs.Endings.{ending_line, status_of}
use Rattle.command_line.specs.Runs.{IsDoneInPart}
use Rattle.command_line.specs.Inner.Outcomes.{ComesTo, IsKept}
use Rattle.command_line.proofs.FailedCalls.{IsDevice}

abbrev pub not_run : ThreadsFault → Result (Unit {0}) ThreadsFault
not_run fault = Err fault

threads_no_line : (fault : ThreadsFault) → status_of (Threads fault) ≢ 2
threads_no_line threads.Write two = absurd (cc)
threads_no_line threads.Refused two = absurd (cc)
threads_no_line threads.OutOfMemory two = absurd (cc)
threads_no_line threads.Mismatch two = absurd (cc)

threads_device : (Same Part : Type 0) (fault : ThreadsFault) (reads writes writes' : ℕ)
    → writes' ≡ count_after (threads_wrote (not_run fault)) writes → (fault ≡ threads.Write → Part) → status_of (Threads fault) ≡ 3
    → IsDevice Same Part (ending_line (Threads fault)) reads reads writes writes'
threads_device Same Part threads.Write reads writes writes' wrote part three = inr (refl, wrote, refl, part refl)
threads_device Same Part threads.Refused reads writes writes' wrote part three = absurd (cc)
threads_device Same Part threads.OutOfMemory reads writes writes' wrote part three = absurd (cc)
threads_device Same Part threads.Mismatch reads writes writes' wrote part three = absurd (cc)

threads_calm : (fault : ThreadsFault) (writes writes' : ℕ) → writes' ≡ count_after (threads_wrote (not_run fault)) writes
    → status_of (Threads fault) ≢ 3 → writes' ≡ writes
threads_calm threads.Write writes writes' wrote other = absurd (other refl)
threads_calm threads.Refused writes writes' wrote other = wrote
threads_calm threads.OutOfMemory writes writes' wrote other = wrote
threads_calm threads.Mismatch writes writes' wrote other = wrote

not_write : (fault : ThreadsFault) → status_of (Threads fault) ≢ 3 → fault ≢ threads.Write
not_write threads.Write other = absurd (other refl)
not_write threads.Refused other = λ same. absurd (cc)
not_write threads.OutOfMemory other = λ same. absurd (cc)
not_write threads.Mismatch other = λ same. absurd (cc)

not_3_at : (status other : ℕ) → status ≡ other → (other ≡ 3 → ⊥) → status ≢ 3
not_3_at status other is differ three = differ (sym is ∙ three)

-- a group is refused for what came of it, or for its sheet
threads_refused : (Sheet : Type 0) (fault : ThreadsFault) → (fault ≡ threads.Refused → Sheet) → status_of (Threads fault) ≡ 1
    → (Threads fault ≡ Threads threads.Mismatch) ⊎ ((Threads fault ≡ Threads threads.Refused) × Sheet)
threads_refused Sheet threads.Write sheet one = absurd (cc)
threads_refused Sheet threads.Refused sheet one = inr (refl, sheet refl)
threads_refused Sheet threads.OutOfMemory sheet one = absurd (cc)
threads_refused Sheet threads.Mismatch sheet one = inl refl

pub threads_come_to : {W : Type 0} (sink : SinkOf W) (size : Size) (fault : ThreadsFault) (known : Option (List ℕ)) (reads : ℕ) (writer writer' : W)
    → sink.failed_calls writer' ≡ count_after (threads_wrote (not_run fault)) (sink.failed_calls writer)
    → (fault ≢ threads.Write → writer' ≡ writer) → (fault ≡ threads.Refused → IsSheetRefused)
    → (fault ≡ threads.Write → IsDoneInPart (RunThreads size) known (sink.contents writer) (sink.contents writer'))
    → ComesTo sink (RunThreads size) (Threads fault) known reads reads writer writer'
threads_come_to sink size fault known reads writer writer' wrote same sheet cut = record {
  understood = threads_no_line fault;
  refused = λ one. inl (threads_refused IsSheetRefused fault sheet one, same (not_write fault (not_3_at (status_of (Threads fault)) 1 one (λ is. omega (arith, is)))));
  device = threads_device (IsKept sink (RunThreads size) known writer writer') (IsDoneInPart (RunThreads size) known (sink.contents writer) (sink.contents writer')) fault _ _ _ wrote cut;
  calm = λ other. (refl, threads_calm fault _ _ wrote other);
  unwritten = λ not_3 not_4. inl (inl (same (not_write fault not_3)));
  part = λ four. inl (inl (same (not_write fault (not_3_at (status_of (Threads fault)) 4 four (λ is. omega (arith, is))))));
}
