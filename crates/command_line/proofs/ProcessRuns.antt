-- What a node or an agent comes to at a fault.
use Rattle.std.proofs.Common.{◌≡◌, ◌≢◌, ◌⊎◌, ap, ℕ, List, Option, Result, Err, IfSome, inl, inr, refl, arith}
use Rattle.counted_io.specs.Counts.{count_after}
use Rattle.counted_io.specs.declared.writing.Sink.{Ghosts as SinkOf}
use Rattle.program_input.specs.declared.ScheduleFault.TheVariants as section
use Rattle.process_player.specs.declared.heads.ProcessKind.{ProcessKind}
use Rattle.process_player.specs.declared.faults.ProcessFault.{ProcessFault}
use Rattle.process_player.specs.declared.faults.ProcessFault.TheVariants as process
use Rattle.process_player.specs.Faults.{IsRefusal, tells_of_reader as process_read, tells_of_writer as process_wrote}
use Rattle.process_player.specs.Refusals.{Rejects}
use Rattle.process_player.specs.Runs.{HasAnswered}
use Rattle.command_line.specs.declared.commands.Command.TheVariants.{Process as RunProcess}
use Rattle.command_line.specs.declared.statuses.Fault.TheVariants.{Process}
use Rattle.command_line.specs.Endings.{ending_line, status_of}
use Rattle.command_line.specs.Runs.{IsDoneInPart, IsLeftBy}
use Rattle.command_line.specs.Inner.Outcomes.{ComesTo, IsKept}
use Rattle.command_line.proofs.FailedCalls.{IsDevice}

process_no_line : (fault : ProcessFault) → status_of (Process fault) ≢ 2
process_no_line process.Read two = absurd (cc)
process_no_line (process.Section (section.Refused code line)) two = absurd (cc)
process_no_line (process.Section section.OutOfMemory) two = absurd (cc)
process_no_line (process.Log code line) two = absurd (cc)
process_no_line process.OtherLog two = absurd (cc)
process_no_line process.NoJournal two = absurd (cc)
process_no_line process.TooLong two = absurd (cc)
process_no_line process.Write two = absurd (cc)
process_no_line process.OutOfMemory two = absurd (cc)

abbrev pub not_served : ProcessFault → Result (Unit {0}) ProcessFault
not_served fault = Err fault

process_device : (Same Part : Type 0) (fault : ProcessFault) (reads reads' writes writes' : ℕ)
    → reads' ≡ count_after (process_read (not_served fault)) reads → writes' ≡ count_after (process_wrote (not_served fault)) writes
    → (fault ≢ process.Write → Same) → (fault ≡ process.Write → Part) → status_of (Process fault) ≡ 3
    → IsDevice Same Part (ending_line (Process fault)) reads reads' writes writes'
process_device Same Part process.Read reads reads' writes writes' read wrote same part three = inl (refl, read, wrote, same (λ is. absurd (cc)))
process_device Same Part (process.Section (section.Refused code line)) reads reads' writes writes' read wrote same part three = absurd (cc)
process_device Same Part (process.Section section.OutOfMemory) reads reads' writes writes' read wrote same part three = absurd (cc)
process_device Same Part (process.Log code line) reads reads' writes writes' read wrote same part three = absurd (cc)
process_device Same Part process.OtherLog reads reads' writes writes' read wrote same part three = absurd (cc)
process_device Same Part process.NoJournal reads reads' writes writes' read wrote same part three = absurd (cc)
process_device Same Part process.TooLong reads reads' writes writes' read wrote same part three = absurd (cc)
process_device Same Part process.Write reads reads' writes writes' read wrote same part three = inr (refl, wrote, read, part refl)
process_device Same Part process.OutOfMemory reads reads' writes writes' read wrote same part three = absurd (cc)

process_calm : (fault : ProcessFault) (reads reads' writes writes' : ℕ)
    → reads' ≡ count_after (process_read (not_served fault)) reads → writes' ≡ count_after (process_wrote (not_served fault)) writes
    → status_of (Process fault) ≢ 3 → (reads' ≡ reads) × (writes' ≡ writes)
process_calm process.Read reads reads' writes writes' read wrote other = absurd (other refl)
process_calm (process.Section told) reads reads' writes writes' read wrote other = (read, wrote)
process_calm (process.Log code line) reads reads' writes writes' read wrote other = (read, wrote)
process_calm process.OtherLog reads reads' writes writes' read wrote other = (read, wrote)
process_calm process.NoJournal reads reads' writes writes' read wrote other = (read, wrote)
process_calm process.TooLong reads reads' writes writes' read wrote other = (read, wrote)
process_calm process.Write reads reads' writes writes' read wrote other = absurd (other refl)
process_calm process.OutOfMemory reads reads' writes writes' read wrote other = (read, wrote)

no_failed_write : (fault : ProcessFault) → status_of (Process fault) ≢ 3 → fault ≢ process.Write
no_failed_write fault other is = other (ap (λ (f : ProcessFault). status_of (Process f)) is)

-- what a refusal leaves
process_left : {W : Type 0} (sink : SinkOf W) (kind : ProcessKind) (fault : ProcessFault) (known : Option (List ℕ)) (writer writer' : W)
    → (IsRefusal fault → writer' ≡ writer)
    → (fault ≢ process.Write → (writer' ≡ writer) ⊎ HasAnswered kind known (sink.contents writer) (sink.contents writer'))
    → status_of (Process fault) ≡ 1 → IsLeftBy sink (RunProcess kind) (Process fault) known writer writer'
process_left sink kind process.Read known writer writer' still whole one = absurd (cc)
process_left sink kind (process.Section told) known writer writer' still whole one = still tt
process_left sink kind (process.Log code line) known writer writer' still whole one = still tt
process_left sink kind process.OtherLog known writer writer' still whole one = still tt
process_left sink kind process.NoJournal known writer writer' still whole one = still tt
process_left sink kind process.TooLong known writer writer' still whole one = whole (λ is. absurd (cc))
process_left sink kind process.Write known writer writer' still whole one = absurd (cc)
process_left sink kind process.OutOfMemory known writer writer' still whole one = absurd (cc)

pub process_comes_to : {W : Type 0} (sink : SinkOf W) (kind : ProcessKind) (fault : ProcessFault) (known : Option (List ℕ)) (reads reads' : ℕ) (writer writer' : W)
    → reads' ≡ count_after (process_read (not_served fault)) reads
    → sink.failed_calls writer' ≡ count_after (process_wrote (not_served fault)) (sink.failed_calls writer)
    → (IsRefusal fault → writer' ≡ writer)
    → (fault ≢ process.Write → (writer' ≡ writer) ⊎ HasAnswered kind known (sink.contents writer) (sink.contents writer'))
    → (fault ≡ process.Write → IsDoneInPart (RunProcess kind) known (sink.contents writer) (sink.contents writer'))
    → IfSome known (λ input. Rejects kind input fault)
    → ComesTo sink (RunProcess kind) (Process fault) known reads reads' writer writer'
process_comes_to sink kind fault known reads reads' writer writer' read wrote still whole torn refused =
    let kept : fault ≢ process.Write → IsKept sink (RunProcess kind) known writer writer' = λ other. kept_by (whole other) in
    record {
      understood = process_no_line fault;
      refused = λ one. inl ((fault, refl, refused), process_left sink kind fault known writer writer' still whole one);
      device = process_device (IsKept sink (RunProcess kind) known writer writer') (IsDoneInPart (RunProcess kind) known (sink.contents writer) (sink.contents writer')) fault _ _ _ _ read wrote kept torn;
      calm = process_calm fault _ _ _ _ read wrote;
      unwritten = λ not_3 not_4. inl (kept (no_failed_write fault not_3));
      part = λ four. inl (kept (no_failed_write fault (λ three. absurd (omega (arith, four, three)))));
    }
  where
    kept_by : (writer' ≡ writer) ⊎ HasAnswered kind known (sink.contents writer) (sink.contents writer') → IsKept sink (RunProcess kind) known writer writer'
    kept_by (inl same) = inl same
    kept_by (inr answered) = inr (inr (kind, refl, answered))
