-- What a whole run comes to: its status, what it read and wrote, and what it told.
use Rattle.std.proofs.Common.{Bool, ◌≡◌, ◌≢◌, ◌⊎◌, ◌≤◌, ◌+◌, ◌++◌, length, ◌∙◌, sym, ap, subst, ℕ, List, [], String, Option, Some, None, Result, Ok, Err, IfErr, IfSome, true, false, inl, inr, refl, arith}
use Rattle.std.specs.Io.KnownBytes.{Appends, IsAtEnd}
use Rattle.std.specs.IoError.{error_kind}
use Rattle.std.specs.declared.io.Error.{Error}
use Rattle.std.specs.declared.io.ErrorKind.TheVariants.{OutOfMemory as NoMemory}
use Rattle.std.specs.declared.vec.IntoIter.{IntoIter}
use Rattle.counted_io.specs.Counts.{next_count}
use Rattle.counted_io.specs.Reading.{ConsumesAtMost}
use Rattle.counted_io.specs.Writing.{AppendsPrefix}
use Rattle.counted_io.specs.declared.reading.Source.{Ghosts as SourceOf}
use Rattle.counted_io.specs.declared.writing.Sink.{Ghosts as SinkOf}
use Rattle.program_input.specs.declared.faults.PlayFault.TheVariants as play
use Rattle.program_input.specs.declared.ScheduleFault.TheVariants as section
use Rattle.metering_model.specs.Limits.{most_input_bytes, most_transcript_bytes}
use Rattle.period_file.specs.declared.faults.FileFault.TheVariants as file
use Rattle.period_file.specs.Files.{AppendsPrefixOf}
use Rattle.sheet_changes.specs.declared.changes.Asked.{Asked}
use Rattle.threads_player.specs.declared.faults.ThreadsFault.TheVariants as threads
use Rattle.threads_player.specs.declared.sizes.Size.{Size}
use Rattle.process_player.specs.declared.heads.ProcessKind.{ProcessKind}
use Rattle.process_player.specs.declared.faults.ProcessFault.TheVariants as process
use Rattle.process_player.specs.Runs.{HasAnswered}
use Rattle.command_line.specs.declared.words.LineFault.{LineFault}
use Rattle.command_line.specs.declared.words.LineFault.TheVariants as on_line
use Rattle.command_line.specs.declared.commands.Command.{Command}
use Rattle.command_line.specs.declared.commands.Command.TheVariants.{Rate, Play as PlaySchedule, Check, File as CutFile, Threads as RunThreads, Help as ShowHelp, Version as ShowVersion, Sheets as CompareSheets, Schedule as WriteSchedule, Process as RunProcess}
use Rattle.command_line.specs.declared.statuses.Fault.{Fault}
use Rattle.command_line.specs.declared.statuses.Fault.TheVariants.{Line, Play, Faults, File, Threads, Process, Unlike, Refused, TooLong, NotClosed}
use Rattle.command_line.specs.Endings.{Tells, ending_line, status_of}
use Rattle.command_line.specs.Runs.{AsksFor, Ends, IsDone, IsDoneInPart, IsUnwritten, Says, most_read, words_behind_name}
use Rattle.command_line.specs.Inner.Outcomes.{IsEnding, IsKept, IsSound, Leaves}
use Rattle.command_line.specs.CommandLine.{takes_input}
use Rattle.command_line.proofs.WordLaws.{asks_for_threads, takes_or_not}
use Rattle.command_line.proofs.FailedCalls.{IsDevice}

-- at 4 it is out of memory that is told
tells_memory : (Told : List ℕ → Type 0) (fault : Fault) → status_of fault ≡ 4 → Told (ending_line fault) → Told (ending_line (Play play.OutOfMemory))
tells_memory Told (Line on_line.Line) four told = absurd (cc)
tells_memory Told (Line on_line.OutOfMemory) four told = told
tells_memory Told (Play play.Read) four told = absurd (cc)
tells_memory Told (Play play.Write) four told = absurd (cc)
tells_memory Told (Play play.OutOfMemory) four told = told
tells_memory Told (Play (play.Refused refusal)) four told = absurd (cc)
tells_memory Told (Play (play.Schedule (section.Refused code line))) four told = absurd (cc)
tells_memory Told (Play (play.Schedule section.OutOfMemory)) four told = told
tells_memory Told (Faults count) four told = absurd (omega (arith, four))
tells_memory Told (File file.NoFile) four told = absurd (cc)
tells_memory Told (File file.Torn) four told = absurd (cc)
tells_memory Told (File file.TooLong) four told = absurd (cc)
tells_memory Told (File file.Read) four told = absurd (cc)
tells_memory Told (File file.Write) four told = absurd (cc)
tells_memory Told (File file.OutOfMemory) four told = told
tells_memory Told (Threads threads.Write) four told = absurd (cc)
tells_memory Told (Threads threads.Refused) four told = absurd (cc)
tells_memory Told (Threads threads.OutOfMemory) four told = told
tells_memory Told (Threads threads.Mismatch) four told = absurd (cc)
tells_memory Told (Process process.Read) four told = absurd (cc)
tells_memory Told (Process (process.Section (section.Refused code line))) four told = absurd (cc)
tells_memory Told (Process (process.Section section.OutOfMemory)) four told = told
tells_memory Told (Process (process.Log code line)) four told = absurd (cc)
tells_memory Told (Process process.OtherLog) four told = absurd (cc)
tells_memory Told (Process process.NoJournal) four told = absurd (cc)
tells_memory Told (Process process.TooLong) four told = absurd (cc)
tells_memory Told (Process process.Write) four told = absurd (cc)
tells_memory Told (Process process.OutOfMemory) four told = told
tells_memory Told Unlike four told = absurd (omega (arith, four))
tells_memory Told (Refused words) four told = absurd (omega (arith, four))
tells_memory Told TooLong four told = absurd (omega (arith, four))
tells_memory Told NotClosed four told = absurd (omega (arith, four))

-- which of the two failed is told
tells_device : (Told : List ℕ → Type 0) (Same Part : Type 0) (line : List ℕ) (reads reads' writes writes' : ℕ)
    → IsDevice Same Part line reads reads' writes writes' → Told line
    → (((reads' ≡ next_count reads) × (writes' ≡ writes)) × Same × Told (ending_line (Play play.Read)))
    ⊎ (((writes' ≡ next_count writes) × (reads' ≡ reads)) × Part × Told (ending_line (Play play.Write)))
tells_device Told Same Part line reads reads' writes writes' (inl is) told = inl ((is.1, is.2), is.3, subst Told is.0 told)
tells_device Told Same Part line reads reads' writes writes' (inr is) told = inr ((is.1, is.2), is.3, subst Told is.0 told)

-- what is written of a file, or by a process, was asked for
kept_of : (Same : Type 0) (Prefix : ℕ → Type 0) (Some_of : ProcessKind → Type 0) (Asked : Command → Type 0) (command : Command) → Asked command
    → Same ⊎ (((period : ℕ) × (command ≡ CutFile period) × Prefix period) ⊎ ((kind : ProcessKind) × (command ≡ RunProcess kind) × Some_of kind))
    → Same ⊎ (((period : ℕ) × Asked (CutFile period) × Prefix period) ⊎ ((kind : ProcessKind) × Asked (RunProcess kind) × Some_of kind))
kept_of Same Prefix Some_of Asked command asked (inl same) = inl same
kept_of Same Prefix Some_of Asked command asked (inr (inl it)) = inr (inl (it.0, subst Asked it.1 asked, it.2))
kept_of Same Prefix Some_of Asked command asked (inr (inr it)) = inr (inr (it.0, subst Asked it.1 asked, it.2))

-- what is written by the one command was asked of it
part_of : (Kept Unwritten Part : Type 0) (Asked : Command → Type 0) (one command : Command) → Asked command → (Kept → Unwritten) → Kept ⊎ ((command ≡ one) × Part) → Unwritten ⊎ (Asked one × Part)
part_of Kept Unwritten Part Asked one command asked kept (inl same) = inl (kept same)
part_of Kept Unwritten Part Asked one command asked kept (inr both) = inr (subst Asked both.0 asked, both.1)

-- what is said was asked for
said_of : (Kept Unwritten : Type 0) (Said : Command → Fault → Type 0) (Asked : Command → Type 0) (command : Command) (fault : Fault) → Asked command → (Kept → Unwritten)
    → Kept ⊎ Said command fault → Unwritten ⊎ ((other : Command) × (what : Fault) × Asked other × Said other what)
said_of Kept Unwritten Said Asked command fault asked kept (inl same) = inl (kept same)
said_of Kept Unwritten Said Asked command fault asked kept (inr said) = inr (command, fault, asked, said)

device_of : (Kept Unwritten Part : Type 0) (line : List ℕ) (reads reads' writes writes' : ℕ) → (Kept → Unwritten)
    → IsDevice Kept Part line reads reads' writes writes' → IsDevice Unwritten Part line reads reads' writes writes'
device_of Kept Unwritten Part line reads reads' writes writes' kept (inl is) = inl (is.0, is.1, is.2, kept is.3)
device_of Kept Unwritten Part line reads reads' writes writes' kept (inr is) = inr is

-- what is done reads all, but where it is done without the input
at_end_of : (Asked : Command → Type 0) (command : Command) (known left old new : Option (List ℕ)) → Asked command → IsDone command known left old new
    → ((command : Command) → Asked command → takes_input command ≡ true) → IsAtEnd left
at_end_of Asked (Rate period) known left old new asked done takes = done.1
at_end_of Asked PlaySchedule known left old new asked done takes = done.1
at_end_of Asked (Check kind) known left old new asked done takes = done.1
at_end_of Asked (CutFile period) known left old new asked done takes = done.1
at_end_of Asked (RunThreads size) known left old new asked done takes = let yes_it_does = takes (RunThreads size) asked in absurd (cc)
at_end_of Asked (CompareSheets asked_of) known left old new asked done takes = done.1
at_end_of Asked (WriteSchedule request) known left old new asked done takes = done.1
at_end_of Asked (RunProcess kind) known left old new asked done takes = done.end
at_end_of Asked ShowHelp known left old new asked done takes = let yes_it_does = takes ShowHelp asked in absurd (cc)
at_end_of Asked ShowVersion known left old new asked done takes = let yes_it_does = takes ShowVersion asked in absurd (cc)

-- every fault ends with a status from 1 to 4
in_range : (fault : Fault) → (1 ≤ status_of fault) × (status_of fault ≤ 4)
in_range (Line on_line.Line) = (omega arith, omega arith)
in_range (Line on_line.OutOfMemory) = (omega arith, omega arith)
in_range (Play play.Read) = (omega arith, omega arith)
in_range (Play play.Write) = (omega arith, omega arith)
in_range (Play play.OutOfMemory) = (omega arith, omega arith)
in_range (Play (play.Refused refusal)) = (omega arith, omega arith)
in_range (Play (play.Schedule (section.Refused code line))) = (omega arith, omega arith)
in_range (Play (play.Schedule section.OutOfMemory)) = (omega arith, omega arith)
in_range (Faults count) = (omega arith, omega arith)
in_range (File file.NoFile) = (omega arith, omega arith)
in_range (File file.Torn) = (omega arith, omega arith)
in_range (File file.TooLong) = (omega arith, omega arith)
in_range (File file.Read) = (omega arith, omega arith)
in_range (File file.Write) = (omega arith, omega arith)
in_range (File file.OutOfMemory) = (omega arith, omega arith)
in_range (Threads threads.Write) = (omega arith, omega arith)
in_range (Threads threads.Refused) = (omega arith, omega arith)
in_range (Threads threads.OutOfMemory) = (omega arith, omega arith)
in_range (Threads threads.Mismatch) = (omega arith, omega arith)
in_range (Process process.Read) = (omega arith, omega arith)
in_range (Process (process.Section (section.Refused code line))) = (omega arith, omega arith)
in_range (Process (process.Section section.OutOfMemory)) = (omega arith, omega arith)
in_range (Process (process.Log code line)) = (omega arith, omega arith)
in_range (Process process.OtherLog) = (omega arith, omega arith)
in_range (Process process.NoJournal) = (omega arith, omega arith)
in_range (Process process.TooLong) = (omega arith, omega arith)
in_range (Process process.Write) = (omega arith, omega arith)
in_range (Process process.OutOfMemory) = (omega arith, omega arith)
in_range Unlike = (omega arith, omega arith)
in_range (Refused told) = (omega arith, omega arith)
in_range TooLong = (omega arith, omega arith)
in_range NotClosed = (omega arith, omega arith)

-- reading nothing takes no byte
pub nothing_read : (most : ℕ) (known : Option (List ℕ)) → ConsumesAtMost most known known
nothing_read most None = let nothing : (taken : List ℕ) × Unit {0} × (length taken ≤ most) = ([], tt, omega arith) in nothing
nothing_read most (Some bytes) = let nothing : (taken : List ℕ) × (bytes ≡ taken ++ bytes) × (length taken ≤ most) = ([], refl, omega arith) in nothing

-- and few bytes are not many
more_read : (few many : ℕ) (known left : Option (List ℕ)) → few ≤ many → ConsumesAtMost few known left → ConsumesAtMost many known left
more_read few many known left more it = let taken = it.2 in (it.0, it.1, omega (arith, taken, more))

-- what the command says is read, and no more
abbrev ReadsFew : Command → (known left : Option (List ℕ)) → Type 0
ReadsFew command known left = IfSome (most_read command) (λ most. ConsumesAtMost most known left)

read_by_any : (command : Command) (known left : Option (List ℕ)) → ((kind : ProcessKind) → command ≢ RunProcess kind) → ReadsFew command known left
    → ConsumesAtMost (most_transcript_bytes + 1) known left
read_by_any (Rate period) known left other read = more_read _ _ known left (omega arith) read
read_by_any PlaySchedule known left other read = more_read _ _ known left (omega arith) read
read_by_any (Check kind) known left other read = more_read _ _ known left (omega arith) read
read_by_any (CutFile period) known left other read = read
read_by_any (RunThreads size) known left other read = more_read _ _ known left (omega arith) read
read_by_any (CompareSheets asked) known left other read = more_read _ _ known left (omega arith) read
read_by_any (WriteSchedule request) known left other read = more_read _ _ known left (omega arith) read
read_by_any (RunProcess kind) known left other read = absurd (other kind refl)
read_by_any ShowHelp known left other read = more_read _ _ known left (omega arith) read
read_by_any ShowVersion known left other read = more_read _ _ known left (omega arith) read

read_by_others : (command : Command) (known left : Option (List ℕ)) → ((period : ℕ) → command ≢ CutFile period) → ((kind : ProcessKind) → command ≢ RunProcess kind)
    → ReadsFew command known left → ConsumesAtMost (most_input_bytes + 1) known left
read_by_others (Rate period) known left other no_process read = read
read_by_others PlaySchedule known left other no_process read = read
read_by_others (Check kind) known left other no_process read = read
read_by_others (CutFile period) known left other no_process read = absurd (other period refl)
read_by_others (RunThreads size) known left other no_process read = more_read _ _ known left (omega arith) read
read_by_others (CompareSheets asked) known left other no_process read = read
read_by_others (WriteSchedule request) known left other no_process read = read
read_by_others (RunProcess kind) known left other no_process read = absurd (no_process kind refl)
read_by_others ShowHelp known left other no_process read = more_read _ _ known left (omega arith) read
read_by_others ShowVersion known left other no_process read = more_read _ _ known left (omega arith) read

-- no fault ends with 0
never_zero : (fault : Fault) (status : ℕ) → status ≡ status_of fault → status ≡ 0 → ⊥
never_zero fault status is zero = let from = (in_range fault).0 in absurd (omega (arith, is, zero, from))

-- Words that ask for something else do not ask for a group.
pub asks_for_no_threads : {A B : Type 0} (args : Result (IntoIter (String A) B) Error) (command : Command) → ((size : Size) → command ≢ RunThreads size)
    → AsksFor args command → (size : Size) → AsksFor args (RunThreads size) → ⊥
asks_for_no_threads (Ok given) command other asked size threads =
    let is = asks_for_threads (words_behind_name given) command size asked threads in other is.0 is.1
asks_for_no_threads (Err error) command other asked size threads = absurd asked

-- Words that ask for what is done with the input ask for nothing that is done without.
pub asks_without : {A B : Type 0} (args : Result (IntoIter (String A) B) Error) (command : Command) → takes_input command ≡ true
    → AsksFor args command → (other : Command) → AsksFor args other → takes_input other ≡ false → ⊥
asks_without (Ok given) command takes asked other others without = takes_or_not (words_behind_name given) command other asked others takes without
asks_without (Err error) command takes asked other others without = absurd asked

-- What asks for what takes no input leaves the reader as it was.
unread_of : {A B : Type 0} (Same : Type 0) (args : Result (IntoIter (String A) B) Error) (command : Command) → AsksFor args command → (takes_input command ≡ false → Same)
    → (other : Command) → AsksFor args other → takes_input other ≡ false → Same
unread_of Same args command asked same other others without = at (takes_input command) refl
  where
    at : (takes : Bool) → takes_input command ≡ takes → Same
    at true is = absurd (asks_without args command is asked other others without)
    at false is = same is

-- What is asked for can be run.
pub sound_of : {A B : Type 0} (args : Result (IntoIter (String A) B) Error) (command : Command) → AsksFor args command → IsSound command
sound_of (Err error) command asked = absurd asked
sound_of (Ok given) (WriteSchedule request) asked = asked.named.1.within
sound_of (Ok given) (RunThreads size) asked = asked.named.1.within
sound_of (Ok given) (Rate period) asked = tt
sound_of (Ok given) PlaySchedule asked = tt
sound_of (Ok given) (Check kind) asked = tt
sound_of (Ok given) (CutFile period) asked = tt
sound_of (Ok given) (CompareSheets of_sheets) asked = tt
sound_of (Ok given) (RunProcess kind) asked = tt
sound_of (Ok given) ShowHelp asked = tt
sound_of (Ok given) ShowVersion asked = tt

-- what asks for something was given
given_of : {A B : Type 0} (args : Result (IntoIter (String A) B) Error) (command : Command) (P : Error → Type 0) → AsksFor args command → IfErr args P
given_of (Ok given) command P asked = tt
given_of (Err error) command P asked = absurd asked

-- What is asked for is no file, and no process, where none is asked for.
other_than : {A : Type 0} (Asked : Command → Type 0) (named : A → Command) (command : Command) → Asked command → ((a : A) → ¬ Asked (named a)) → (a : A) → command ≢ named a
other_than Asked named command asked none a is = none a (subst Asked is asked)

-- A run whose words ask for a command leaves what this one leaves.
pub ends : {R W E A B : Type 0} (source : SourceOf R) (sink : SinkOf W) (telling : SinkOf E) (args : Result (IntoIter (String A) B) Error) (command : Command) (outcome : Result (Unit {0}) Fault) (status : ℕ) (reader reader' : R) (writer writer' : W) (errors errors' : E)
    → AsksFor args command
    → Leaves sink command outcome (source.remaining reader) (source.remaining reader') (source.failed_calls reader) (source.failed_calls reader') writer writer'
    → IsEnding telling outcome status errors errors'
    → ReadsFew command (source.remaining reader) (source.remaining reader')
    → (takes_input command ≡ false → reader' ≡ reader)
    → Ends source sink telling args status reader reader' writer writer' errors errors'
ends source sink telling args command (Ok x) status reader reader' writer writer' errors errors' asked leaves ending read unread =
    let zero = ending.0 in
    record {
      range = omega (arith, zero);
      done = λ is. (command, asked, leaves.done);
      end = λ is none. at_end_of (AsksFor args) command _ _ _ _ asked leaves.done none;
      silent = λ is. ending.1;
      refused = λ is. absurd (omega (arith, zero, is));
      not_asked = λ is. absurd (omega (arith, zero, is));
      kept = λ is. absurd (omega (arith, zero, is));
      device = λ is. absurd (omega (arith, zero, is));
      calm = λ is. leaves.calm;
      memory = λ is. absurd (omega (arith, zero, is));
      part = λ is. absurd (omega (arith, zero, is));
      unwritten = λ not_0 not_3 not_4. absurd (not_0 zero);
      read = λ no_file no_process. read_by_others command _ _ (other_than (AsksFor args) CutFile command asked no_file)
          (other_than (AsksFor args) RunProcess command asked no_process) read;
      read_by_file = λ no_process. read_by_any command _ _ (other_than (AsksFor args) RunProcess command asked no_process) read;
      unread = unread_of (reader' ≡ reader) args command asked unread;
      not_given = given_of args command _ asked;
    }
ends source sink telling args command (Err fault) status reader reader' writer writer' errors errors' asked leaves ending read unread =
    let same = ending.0 in
    let known = source.remaining reader in
    let kept : IsKept sink command known writer writer' → IsUnwritten sink args known writer writer' =
    λ it. kept_of (writer' ≡ writer) (λ period. AppendsPrefixOf known period (sink.contents writer) (sink.contents writer'))
    (λ kind. HasAnswered kind known (sink.contents writer) (sink.contents writer')) (AsksFor args) command asked it in
    let told : List ℕ → Type 0 = λ line.
    (Appends (telling.contents errors) (telling.contents errors') line × (telling.failed_calls errors' ≡ telling.failed_calls errors))
    ⊎ (AppendsPrefix (telling.contents errors) (telling.contents errors') line
    × (telling.failed_calls errors' ≡ next_count (telling.failed_calls errors))) in
    let part : Type 0 = IsDoneInPart command known (sink.contents writer) (sink.contents writer') in
    record {
      range = let to = (in_range fault).1 in omega (arith, same, to);
      done = λ is. absurd (never_zero fault status same is);
      end = λ is. absurd (never_zero fault status same is);
      silent = λ is. absurd (never_zero fault status same is);
      refused = λ is. let one = sym same ∙ is in (command, fault, asked, one, leaves.refused one, ending.1);
      not_asked = λ is. absurd (leaves.understood (sym same ∙ is));
      kept = λ is. absurd (leaves.understood (sym same ∙ is));
      device = λ is. (
        command,
        asked,
        tells_device told (IsUnwritten sink args known writer writer') part (ending_line fault) (source.failed_calls reader) (source.failed_calls reader') (sink.failed_calls writer) (sink.failed_calls writer')
            (device_of (IsKept sink command known writer writer') (IsUnwritten sink args known writer writer') part (ending_line fault) (source.failed_calls reader) (source.failed_calls reader') (sink.failed_calls writer) (sink.failed_calls writer') kept (leaves.device (sym same ∙ is))) ending.1,
      );
      calm = λ other. leaves.calm (λ is. other (same ∙ is));
      memory = λ is. tells_memory told fault (sym same ∙ is) ending.1;
      part = λ is. part_of (IsKept sink command known writer writer') _ _ (AsksFor args) PlaySchedule command asked kept (leaves.part (sym same ∙ is));
      unwritten = λ not_0 not_3 not_4. said_of (IsKept sink command known writer writer') (IsUnwritten sink args known writer writer') (λ c f. Says c f known (sink.contents writer) (sink.contents writer')) (AsksFor args) command fault asked kept
          (leaves.unwritten (λ is. not_3 (same ∙ is)) (λ is. not_4 (same ∙ is)));
      read = λ no_file no_process. read_by_others command _ _ (other_than (AsksFor args) CutFile command asked no_file)
          (other_than (AsksFor args) RunProcess command asked no_process) read;
      read_by_file = λ no_process. read_by_any command _ _ (other_than (AsksFor args) RunProcess command asked no_process) read;
      unread = unread_of (reader' ≡ reader) args command asked unread;
      not_given = given_of args command _ asked;
    }

abbrev pub not_asked : (A : Type 0) → LineFault → Result A LineFault
not_asked A fault = Err fault

same_fault : {A : Type 0} (one other : LineFault) → not_asked A one ≡ not_asked A other → one ≡ other
same_fault one other same = cc

-- what the words are said to be where none were given
abbrev pub IsMissing : {A B : Type 0} (C : Type 0) → Result (IntoIter (String A) B) Error → LineFault → Type 0
IsMissing C args fault = IfErr args (λ error. (error_kind error ≡ NoMemory → not_asked C fault ≡ not_asked C on_line.OutOfMemory) × (error_kind error ≢ NoMemory → not_asked C fault ≡ not_asked C on_line.Line))

missing_of : {A B : Type 0} (C : Type 0) (args : Result (IntoIter (String A) B) Error) (fault : LineFault) (status : ℕ) → status ≡ status_of (Line fault) → IsMissing C args fault
    → IfErr args (λ error. (error_kind error ≡ NoMemory → status ≡ 4) × (error_kind error ≢ NoMemory → status ≡ 2))
missing_of C (Ok given) fault status same missing = tt
missing_of C (Err error) fault status same missing = (
  (λ no_memory. same ∙ ap (λ (f : LineFault). status_of (Line f)) (same_fault {A = C} fault on_line.OutOfMemory (missing.0 no_memory))),
  (λ other. same ∙ ap (λ (f : LineFault). status_of (Line f)) (same_fault {A = C} fault on_line.Line (missing.1 other))),
)

-- A run whose words ask for nothing, or could not be had, tells that alone.
pub ends_at_words : {R W E A B : Type 0} (C : Type 0) (source : SourceOf R) (sink : SinkOf W) (telling : SinkOf E) (args : Result (IntoIter (String A) B) Error) (fault : LineFault) (status : ℕ) (reader : R) (writer : W) (errors errors' : E)
    → status ≡ status_of (Line fault) → Tells telling (Line fault) errors errors'
    → (fault ≡ on_line.Line → (command : Command) → ¬ AsksFor args command)
    → IsMissing C args fault
    → Ends source sink telling args status reader reader writer writer errors errors'
ends_at_words C source sink telling args on_line.Line status reader writer errors errors' same told unasked missing = record {
  range = omega (arith, same);
  done = λ is. absurd (omega (arith, same, is));
  end = λ is. absurd (omega (arith, same, is));
  silent = λ is. absurd (omega (arith, same, is));
  refused = λ is. absurd (omega (arith, same, is));
  not_asked = λ is. (unasked refl, told);
  kept = λ is. refl;
  device = λ is. absurd (omega (arith, same, is));
  calm = λ other. (refl, refl);
  memory = λ is. absurd (omega (arith, same, is));
  part = λ is. inl (inl refl);
  unwritten = λ not_0 not_3 not_4. inl (inl refl);
  read = λ no_file no_process. nothing_read (most_input_bytes + 1) (source.remaining reader);
  read_by_file = λ no_process. nothing_read (most_transcript_bytes + 1) (source.remaining reader);
  unread = λ command asked without. refl;
  not_given = missing_of C args on_line.Line status same missing;
}
ends_at_words C source sink telling args on_line.OutOfMemory status reader writer errors errors' same told unasked missing = record {
  range = omega (arith, same);
  done = λ is. absurd (omega (arith, same, is));
  end = λ is. absurd (omega (arith, same, is));
  silent = λ is. absurd (omega (arith, same, is));
  refused = λ is. absurd (omega (arith, same, is));
  not_asked = λ is. absurd (omega (arith, same, is));
  kept = λ is. refl;
  device = λ is. absurd (omega (arith, same, is));
  calm = λ other. (refl, refl);
  memory = λ is. told;
  part = λ is. inl (inl refl);
  unwritten = λ not_0 not_3 not_4. inl (inl refl);
  read = λ no_file no_process. nothing_read (most_input_bytes + 1) (source.remaining reader);
  read_by_file = λ no_process. nothing_read (most_transcript_bytes + 1) (source.remaining reader);
  unread = λ command asked without. refl;
  not_given = missing_of C args on_line.OutOfMemory status same missing;
}

-- Where words ask for a group, only out of memory comes before.
pub memory_alone : {A B : Type 0} (args : Result (IntoIter (String A) B) Error) (fault : LineFault) (status : ℕ) → status ≡ status_of (Line fault)
    → (fault ≡ on_line.Line → (command : Command) → ¬ AsksFor args command) → (size : Size) → AsksFor args (RunThreads size) → status ≡ 4
memory_alone args on_line.Line status same unasked size asked = absurd (unasked refl (RunThreads size) asked)
memory_alone args on_line.OutOfMemory status same unasked size asked = same

-- What was lent may have another name where nothing was done to it before.
pub ends_from : {R W E A B : Type 0} (source : SourceOf R) (sink : SinkOf W) (telling : SinkOf E) (args : Result (IntoIter (String A) B) Error) (status : ℕ) (reader reader₀ reader' : R) (writer writer₀ writer' : W) (errors errors₀ errors' : E)
    → reader ≡ reader₀ → writer ≡ writer₀ → errors ≡ errors₀
    → Ends source sink telling args status reader reader' writer writer' errors errors'
    → Ends source sink telling args status reader₀ reader' writer₀ writer' errors₀ errors'
ends_from {R} {W} {E} source sink telling args status reader reader₀ reader' writer writer₀ writer' errors errors₀ errors' same_reader same_writer same_errors done =
    subst (λ (r : R). Ends source sink telling args status r reader' writer₀ writer' errors₀ errors') same_reader
    (subst (λ (w : W). Ends source sink telling args status reader reader' w writer' errors₀ errors') same_writer
    (subst (λ (e : E). Ends source sink telling args status reader reader' writer writer' e errors') same_errors done))
