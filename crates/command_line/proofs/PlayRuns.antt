-- What `rate` and `play` come to at a fault, and each command that answers as they do.
use Rattle.std.proofs.Common.{◌≡◌, ◌≢◌, ◌⊎◌, ℕ, List, Option, Result, Err, inl, inr, refl}
use Rattle.counted_io.specs.Counts.{count_after}
use Rattle.counted_io.specs.declared.writing.Sink.{Ghosts as SinkOf}
use Rattle.program_input.specs.declared.faults.PlayFault.{PlayFault}
use Rattle.program_input.specs.declared.faults.PlayFault.TheVariants as play
use Rattle.program_input.specs.declared.ScheduleFault.TheVariants as section
use Rattle.program_input.specs.Faults.{tells_of_reader, tells_of_writer}
use Rattle.command_line.specs.declared.commands.Command.{Command}
use Rattle.command_line.specs.declared.commands.Command.TheVariants.{Play as PlaySchedule}
use Rattle.command_line.specs.declared.statuses.Fault.TheVariants.{Play}
use Rattle.command_line.specs.Endings.{ending_line, status_of}
use Rattle.command_line.specs.Runs.{IsDoneInPart, IsLeftBy, IsPlayedInPart, Refuses}
use Rattle.command_line.specs.Inner.Outcomes.{ComesTo, IsKept}
use Rattle.command_line.proofs.FailedCalls.{IsDevice}

abbrev pub failed : PlayFault → Result (Unit {0}) PlayFault
failed fault = Err fault

is_device : (Same Part : Type 0) (fault : PlayFault) (reads reads' writes writes' : ℕ)
    → reads' ≡ count_after (tells_of_reader (failed fault)) reads → writes' ≡ count_after (tells_of_writer (failed fault)) writes
    → (fault ≢ play.Write → fault ≢ play.OutOfMemory → Same) → (fault ≡ play.Write → Part) → status_of (Play fault) ≡ 3
    → IsDevice Same Part (ending_line (Play fault)) reads reads' writes writes'
is_device Same Part play.Read reads reads' writes writes' read wrote same part three = inl (refl, read, wrote, same (λ is. absurd (cc)) (λ is. absurd (cc)))
is_device Same Part play.Write reads reads' writes writes' read wrote same part three = inr (refl, wrote, read, part refl)
is_device Same Part play.OutOfMemory reads reads' writes writes' read wrote same part three = absurd (cc)
is_device Same Part (play.Refused refusal) reads reads' writes writes' read wrote same part three = absurd (cc)
is_device Same Part (play.Schedule (section.Refused code line)) reads reads' writes writes' read wrote same part three = absurd (cc)
is_device Same Part (play.Schedule section.OutOfMemory) reads reads' writes writes' read wrote same part three = absurd (cc)

is_calm : (fault : PlayFault) (reads reads' writes writes' : ℕ)
    → reads' ≡ count_after (tells_of_reader (failed fault)) reads → writes' ≡ count_after (tells_of_writer (failed fault)) writes
    → status_of (Play fault) ≢ 3 → (reads' ≡ reads) × (writes' ≡ writes)
is_calm play.Read reads reads' writes writes' read wrote other = absurd (other refl)
is_calm play.Write reads reads' writes writes' read wrote other = absurd (other refl)
is_calm play.OutOfMemory reads reads' writes writes' read wrote other = (read, wrote)
is_calm (play.Refused refusal) reads reads' writes writes' read wrote other = (read, wrote)
is_calm (play.Schedule bad) reads reads' writes writes' read wrote other = (read, wrote)

-- what holds but out of memory and at a failed write
but_at_3_and_4 : (Same : Type 0) (fault : PlayFault) → (fault ≢ play.Write → fault ≢ play.OutOfMemory → Same)
    → status_of (Play fault) ≢ 3 → status_of (Play fault) ≢ 4 → Same
but_at_3_and_4 Same play.Read same not_3 not_4 = absurd (not_3 refl)
but_at_3_and_4 Same play.Write same not_3 not_4 = absurd (not_3 refl)
but_at_3_and_4 Same play.OutOfMemory same not_3 not_4 = absurd (not_4 refl)
but_at_3_and_4 Same (play.Refused refusal) same not_3 not_4 = same (λ is. absurd (cc)) (λ is. absurd (cc))
but_at_3_and_4 Same (play.Schedule bad) same not_3 not_4 = same (λ is. absurd (cc)) (λ is. absurd (cc))

-- and so where an input is refused
at_1 : (Same : Type 0) (fault : PlayFault) → (fault ≢ play.Write → fault ≢ play.OutOfMemory → Same) → status_of (Play fault) ≡ 1 → Same
at_1 Same play.Read same one = absurd (cc)
at_1 Same play.Write same one = absurd (cc)
at_1 Same play.OutOfMemory same one = absurd (cc)
at_1 Same (play.Refused refusal) same one = same (λ is. absurd (cc)) (λ is. absurd (cc))
at_1 Same (play.Schedule bad) same one = same (λ is. absurd (cc)) (λ is. absurd (cc))

only_memory : (fault : PlayFault) → fault ≢ play.Schedule section.OutOfMemory → status_of (Play fault) ≡ 4 → fault ≡ play.OutOfMemory
only_memory play.Read plain four = absurd (cc)
only_memory play.Write plain four = absurd (cc)
only_memory play.OutOfMemory plain four = refl
only_memory (play.Refused refusal) plain four = absurd (cc)
only_memory (play.Schedule (section.Refused code line)) plain four = absurd (cc)
only_memory (play.Schedule section.OutOfMemory) plain four = absurd (plain refl)

pub is_no_line : (fault : PlayFault) → status_of (Play fault) ≢ 2
is_no_line play.Read two = absurd (cc)
is_no_line play.Write two = absurd (cc)
is_no_line play.OutOfMemory two = absurd (cc)
is_no_line (play.Refused refusal) two = absurd (cc)
is_no_line (play.Schedule (section.Refused code line)) two = absurd (cc)
is_no_line (play.Schedule section.OutOfMemory) two = absurd (cc)

pub comes_to : {W : Type 0} (sink : SinkOf W) (command : Command) (fault : PlayFault) (known : Option (List ℕ)) (reads reads' : ℕ) (writer writer' : W)
    → reads' ≡ count_after (tells_of_reader (failed fault)) reads
    → sink.failed_calls writer' ≡ count_after (tells_of_writer (failed fault)) (sink.failed_calls writer)
    → (fault ≢ play.Write → fault ≢ play.OutOfMemory → writer' ≡ writer)
    → (status_of (Play fault) ≡ 1 → Refuses command known (Play fault))
    → (status_of (Play fault) ≡ 1 → writer' ≡ writer → IsLeftBy sink command (Play fault) known writer writer')
    → fault ≢ play.Schedule section.OutOfMemory
    → (fault ≡ play.OutOfMemory → (writer' ≡ writer) ⊎ ((command ≡ PlaySchedule) × IsPlayedInPart known (sink.contents writer) (sink.contents writer')))
    → (fault ≡ play.Write → IsDoneInPart command known (sink.contents writer) (sink.contents writer'))
    → ComesTo sink command (Play fault) known reads reads' writer writer'
comes_to sink command fault known reads reads' writer writer' read wrote same refused left plain part cut =
    let kept : fault ≢ play.Write → fault ≢ play.OutOfMemory → IsKept sink command known writer writer' = λ no_write no_memory. inl (same no_write no_memory) in
    record {
      understood = is_no_line fault;
      refused = λ one. inl (refused one, left one (at_1 (writer' ≡ writer) fault same one));
      device = is_device (IsKept sink command known writer writer') (IsDoneInPart command known (sink.contents writer) (sink.contents writer')) fault _ _ _ _ read wrote kept cut;
      calm = is_calm fault _ _ _ _ read wrote;
      unwritten = λ not_3 not_4. inl (but_at_3_and_4 (IsKept sink command known writer writer') fault kept not_3 not_4);
      part = λ four. part_kept (part (only_memory fault plain four));
    }
  where
    part_kept : (writer' ≡ writer) ⊎ ((command ≡ PlaySchedule) × IsPlayedInPart known (sink.contents writer) (sink.contents writer'))
        → IsKept sink command known writer writer' ⊎ ((command ≡ PlaySchedule) × IsPlayedInPart known (sink.contents writer) (sink.contents writer'))
    part_kept (inl unwritten) = inl (inl unwritten)
    part_kept (inr both) = inr both
