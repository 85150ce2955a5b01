-- What `file` comes to at a fault.
use Rattle.std.proofs.Common.{◌≡◌, ◌≢◌, ℕ, List, Option, Result, Err, inl, inr, refl}
use Rattle.counted_io.specs.Counts.{count_after}
use Rattle.counted_io.specs.declared.writing.Sink.{Ghosts as SinkOf}
use Rattle.period_file.specs.declared.faults.FileFault.{FileFault}
use Rattle.period_file.specs.declared.faults.FileFault.TheVariants as file
use Rattle.period_file.specs.Faults.{tells_of_reader as file_read, tells_of_writer as file_wrote}
use Rattle.period_file.specs.Files.{AppendsLess, AppendsPart, AppendsPrefixOf}
use Rattle.command_line.specs.declared.commands.Command.TheVariants.{File as CutFile}
use Rattle.command_line.specs.declared.statuses.Fault.TheVariants.{File}
use Rattle.command_line.specs.Endings.{ending_line, status_of}
use Rattle.command_line.specs.Runs.{IsLeftBy, Refuses}
use Rattle.command_line.specs.Inner.Outcomes.{ComesTo, IsKept}
use Rattle.command_line.proofs.FailedCalls.{IsDevice}

abbrev pub not_cut : FileFault → Result (Unit {0}) FileFault
not_cut fault = Err fault

file_no_line : (fault : FileFault) → status_of (File fault) ≢ 2
file_no_line file.NoFile two = absurd (cc)
file_no_line file.Torn two = absurd (cc)
file_no_line file.TooLong two = absurd (cc)
file_no_line file.Read two = absurd (cc)
file_no_line file.Write two = absurd (cc)
file_no_line file.OutOfMemory two = absurd (cc)

file_device : (Same Part : Type 0) (fault : FileFault) (reads reads' writes writes' : ℕ)
    → reads' ≡ count_after (file_read (not_cut fault)) reads → writes' ≡ count_after (file_wrote (not_cut fault)) writes
    → Same → (fault ≡ file.Write → Part) → status_of (File fault) ≡ 3 → IsDevice Same Part (ending_line (File fault)) reads reads' writes writes'
file_device Same Part file.NoFile reads reads' writes writes' read wrote same part three = absurd (cc)
file_device Same Part file.Torn reads reads' writes writes' read wrote same part three = absurd (cc)
file_device Same Part file.TooLong reads reads' writes writes' read wrote same part three = absurd (cc)
file_device Same Part file.Read reads reads' writes writes' read wrote same part three = inl (refl, read, wrote, same)
file_device Same Part file.Write reads reads' writes writes' read wrote same part three = inr (refl, wrote, read, part refl)
file_device Same Part file.OutOfMemory reads reads' writes writes' read wrote same part three = absurd (cc)

file_calm : (fault : FileFault) (reads reads' writes writes' : ℕ)
    → reads' ≡ count_after (file_read (not_cut fault)) reads → writes' ≡ count_after (file_wrote (not_cut fault)) writes
    → status_of (File fault) ≢ 3 → (reads' ≡ reads) × (writes' ≡ writes)
file_calm file.NoFile reads reads' writes writes' read wrote other = (read, wrote)
file_calm file.Torn reads reads' writes writes' read wrote other = (read, wrote)
file_calm file.TooLong reads reads' writes writes' read wrote other = (read, wrote)
file_calm file.Read reads reads' writes writes' read wrote other = absurd (other refl)
file_calm file.Write reads reads' writes writes' read wrote other = absurd (other refl)
file_calm file.OutOfMemory reads reads' writes writes' read wrote other = (read, wrote)

-- what a refusal leaves
file_left : {W : Type 0} (sink : SinkOf W) (period : ℕ) (fault : FileFault) (known : Option (List ℕ)) (writer writer' : W) → (fault ≡ file.NoFile → writer' ≡ writer)
    → (fault ≡ file.Torn → AppendsPart known period (sink.contents writer) (sink.contents writer')) → AppendsPrefixOf known period (sink.contents writer) (sink.contents writer')
    → status_of (File fault) ≡ 1 → IsLeftBy sink (CutFile period) (File fault) known writer writer'
file_left sink period file.NoFile known writer writer' none torn prefix one = none refl
file_left sink period file.Torn known writer writer' none torn prefix one = torn refl
file_left sink period file.TooLong known writer writer' none torn prefix one = prefix
file_left sink period file.Read known writer writer' none torn prefix one = absurd (cc)
file_left sink period file.Write known writer writer' none torn prefix one = absurd (cc)
file_left sink period file.OutOfMemory known writer writer' none torn prefix one = absurd (cc)

pub file_comes_to : {W : Type 0} (sink : SinkOf W) (period : ℕ) (fault : FileFault) (known : Option (List ℕ)) (reads reads' : ℕ) (writer writer' : W)
    → reads' ≡ count_after (file_read (not_cut fault)) reads
    → sink.failed_calls writer' ≡ count_after (file_wrote (not_cut fault)) (sink.failed_calls writer)
    → (fault ≡ file.NoFile → writer' ≡ writer)
    → (fault ≡ file.Torn → AppendsPart known period (sink.contents writer) (sink.contents writer'))
    → AppendsPrefixOf known period (sink.contents writer) (sink.contents writer')
    → (fault ≡ file.Write → AppendsLess known period (sink.contents writer) (sink.contents writer'))
    → (status_of (File fault) ≡ 1 → Refuses (CutFile period) known (File fault))
    → ComesTo sink (CutFile period) (File fault) known reads reads' writer writer'
file_comes_to sink period fault known reads reads' writer writer' read wrote none torn prefix less refused =
    let kept : IsKept sink (CutFile period) known writer writer' = inr (inl (period, refl, prefix)) in
    record {
      understood = file_no_line fault;
      refused = λ one. inl (refused one, file_left sink period fault known writer writer' none torn prefix one);
      device = file_device (IsKept sink (CutFile period) known writer writer') (AppendsLess known period (sink.contents writer) (sink.contents writer')) fault _ _ _ _ read wrote kept less;
      calm = file_calm fault _ _ _ _ read wrote;
      unwritten = λ not_3 not_4. inl kept;
      part = λ four. inl kept;
    }
