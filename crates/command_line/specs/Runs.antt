-- What a run of the program takes and leaves.
use Rattle.std.specs.Prelude.{◌≡◌, ◌≢◌, ◌≤◌, ◌⊎◌, ◌+◌, ◌++◌, ℕ, List, [], codes, true, false, String, Vec, Option, Some, None, Result, Ok, Err, IfSome, IfErr, map, drop, string_bytes}
use Rattle.std.specs.Io.KnownBytes.{Appends, IsAtEnd}
use Rattle.std.specs.IoError.{error_kind}
use Rattle.std.specs.declared.io.ErrorKind.TheVariants.{OutOfMemory as NoMemory}
use Rattle.std.specs.Vec.Iter.{into_iter_items}
use Rattle.std.specs.declared.vec.IntoIter.{IntoIter}
use Rattle.std.specs.declared.io.Error.{Error}
use Rattle.std.specs.declared.alloc.Global.{Global}
use Rattle.metering_model.specs.Transcript.{line, line_count}
use Rattle.clap.specs.Words.{Text}
use Rattle.counted_io.specs.Counts.{next_count}
use Rattle.counted_io.specs.Reading.{ConsumesAtMost}
use Rattle.counted_io.specs.Writing.{AppendsPrefix}
use Rattle.counted_io.specs.declared.reading.Source.{Ghosts as SourceOf}
use Rattle.counted_io.specs.declared.writing.Sink.{Ghosts as SinkOf}
use Rattle.program_input.specs.declared.ScheduleFault.{ScheduleFault}
use Rattle.input_check.specs.Schedules.{schedule_in}
use Rattle.input_check.specs.Transcripts.{IsTranscriptOf, IsPrefixOfTranscript}
use Rattle.program_input.specs.declared.faults.PlayFault.{PlayFault}
use Rattle.program_input.specs.declared.faults.PlayFault.TheVariants as play
use Rattle.input_check.specs.RateInput.{rated_file}
use Rattle.input_check.specs.Charges.{IsFileOf}
use Rattle.input_check.specs.Inputs.{IsSaidAs, IsSaidOf}
use Rattle.input_check.specs.declared.kinds.InputKind.TheVariants as checked_as
use Rattle.period_file.specs.Files.{AppendsLess, AppendsPart, AppendsPrefixOf, IsFileOf as IsFirstFileOf, file_in}
use Rattle.period_file.specs.declared.faults.FileFault.{FileFault}
use Rattle.period_file.specs.declared.faults.FileFault.TheVariants as file
use Rattle.metering_model.specs.Sheet.{Sheet}
use Rattle.metering_model.specs.Limits.{most_input_bytes, most_transcript_bytes}
use Rattle.sheet_changes.specs.Changes.{IsSaidOf as AreSheetsOf, StaysBefore, two_sheets_in}
use Rattle.sheet_changes.specs.Checks.{IsCheckOf}
use Rattle.schedule_writer.specs.Checks.{IsSaidOf as IsSaidOfBatches}
use Rattle.schedule_writer.specs.Refusals.{IsRefused, IsTaken}
use Rattle.schedule_writer.specs.Schedules.{IsScheduleOf}
use Rattle.threads_player.specs.Runs.{Run}
use Rattle.threads_player.specs.declared.faults.ThreadsFault.TheVariants as threads
use Rattle.threads_player.specs.Reports.{report_text}
use Rattle.threads_player.specs.Runs.{IsRunOf, IsSheetRefused}
use Rattle.process_player.specs.declared.heads.ProcessKind.{ProcessKind}
use Rattle.process_player.specs.declared.faults.ProcessFault.{ProcessFault}
use Rattle.process_player.specs.declared.faults.ProcessFault.TheVariants as process
use Rattle.process_player.specs.Refusals.{Rejects}
use Rattle.process_player.specs.Runs.{HasAnswered, RunsToEnd, RunsTorn}
use Rattle.command_line.specs.CommandLine.{Asks, takes_input}
use Rattle.command_line.specs.Endings.{Tells, status_of}
use Rattle.command_line.specs.declared.words.LineFault.TheVariants as on_line
use Rattle.command_line.specs.declared.statuses.Fault.{Fault}
use Rattle.command_line.specs.declared.statuses.Fault.TheVariants as of_fault
use Rattle.command_line.specs.declared.commands.Kind.{Kind}
use Rattle.command_line.specs.declared.commands.Kind.TheVariants as kind
use Rattle.command_line.specs.declared.commands.Command.{Command}
use Rattle.command_line.specs.declared.commands.Command.TheVariants.{Rate, Play, Check, File, Threads, Sheets, Schedule, Process, Help, Version}

-- the words behind the program's name, which is the first
abbrev pub words_behind_name : {A B : Type 0} → IntoIter (String A) B → List Text
words_behind_name args = map string_bytes (drop 1 (into_iter_items args))

-- What the process gave asks for the command: where it gave no words, nothing is asked for.
abbrev pub AsksFor : {A B : Type 0} → Result (IntoIter (String A) B) Error → Command → Type 0
AsksFor (Ok args) command = Asks (words_behind_name args) command
AsksFor (Err error) command = ⊥

-- the line of the version
abbrev pub version_line : List ℕ
version_line = line (codes "focusd 0.3.0")

-- Of an input that is checked as one of that kind, or as one of the kind that its first line says, the one text says what is
-- refused, and the other what is warned of.
abbrev pub IsChecked : Option Kind → (known : Option (List ℕ)) (input said warned : List ℕ) → Type 0
IsChecked None known input said warned = IsSaidOf known input said warned
IsChecked (Some kind.Rate) known input said warned = IsSaidAs checked_as.Rate known input said warned
IsChecked (Some kind.Play) known input said warned = IsSaidAs checked_as.Play known input said warned
IsChecked (Some kind.Schedule) known input said warned = IsSaidOfBatches known input said warned
IsChecked (Some kind.Sheets) known input said warned = IsCheckOf known input said warned

-- What was asked for was done, and nothing else: the file of the input was written, or the transcript of the schedule that
-- the input is; or nothing is refused of the input and just the warnings were written; or the first file of the period in the
-- input; or what is said of the two sheets in it, of which all stays that is to stay; or a schedule for it; and nothing remains
-- to be read; or the answers of the process that the input begins to all that it asks. Or the report of a run of such a group was
-- written, or some text for help, or the version.
abbrev pub IsDone : Command → (known left old new : Option (List ℕ)) → Type 0
IsDone (Rate period) known left old new =
    ((input text : List ℕ) × IsFileOf known period input text × Appends old new text) × IsAtEnd left
IsDone Play known left old new =
    ((input text : List ℕ) × IsTranscriptOf known input text × Appends old new text) × IsAtEnd left
IsDone (Check kind) known left old new =
    ((input warned : List ℕ) × IsChecked kind known input [] warned × Appends old new warned) × IsAtEnd left
IsDone (File period) known left old new =
    ((input file : List ℕ) × IsFirstFileOf known period input file × Appends old new file) × IsAtEnd left
IsDone (Threads size) known left old new = (run : Run) × IsRunOf size run × Appends old new (report_text run)
IsDone (Sheets asked) known left old new =
    ((before_it after_it : Sheet) × (text : List ℕ) × AreSheetsOf known asked.all before_it after_it text
    × StaysBefore asked.before before_it after_it × Appends old new text)
    × IsAtEnd left
IsDone (Schedule request) known left old new =
    ((input text : List ℕ) × IsScheduleOf request known input text × Appends old new text) × IsAtEnd left
IsDone (Process kind) known left old new = RunsToEnd kind known left old new
IsDone Help known left old new = (text : List ℕ) × (text ≢ []) × Appends old new text
IsDone Version known left old new = Appends old new version_line

-- The command refuses so. Of an input whose bytes are known: by its sections or by its batch, or as no schedule, or it has no
-- whole file of the period; or no schedule was found for it, though its sections are read and each of its batches is taken; or it
-- begins no process, or asks for too much. Of a group: what its workers brought back, or the sheet that is built in. Help and the
-- version are never refused, and what `check` refuses it says (`Says`).
abbrev pub Refuses : Command → Option (List ℕ) → Fault → Type 0
Refuses (Rate period) known fault =
    (told : PlayFault) × (fault ≡ of_fault.Play told) × IfSome known (λ input. rated_file period input ≡ Err told)
Refuses Play known fault =
    (told : ScheduleFault) × (fault ≡ of_fault.Play (play.Schedule told)) × IfSome known (λ input. schedule_in input ≡ Err told)
Refuses (Check kind) known fault = ⊥
Refuses (File period) known fault =
    (told : FileFault) × (fault ≡ of_fault.File told) × IfSome known (λ input. file_in period input ≡ Err told)
Refuses (Threads size) known fault =
    (fault ≡ of_fault.Threads threads.Mismatch) ⊎ ((fault ≡ of_fault.Threads threads.Refused) × IsSheetRefused)
Refuses (Sheets asked) known fault =
    (told : ScheduleFault) × (fault ≡ of_fault.Play (play.Schedule told)) × IfSome known (λ input. two_sheets_in input ≡ Err told)
Refuses (Schedule request) known fault =
    ((told : Vec ℕ Global) × (fault ≡ of_fault.Refused told) × IfSome known (λ input. IsRefused input told.items))
    ⊎ (((fault ≡ of_fault.TooLong) ⊎ (fault ≡ of_fault.NotClosed)) × IfSome known IsTaken)
Refuses (Process kind) known fault =
    (told : ProcessFault) × (fault ≡ of_fault.Process told) × IfSome known (λ input. Rejects kind input told)
Refuses Help known fault = ⊥
Refuses Version known fault = ⊥

-- What a command says of an input, though something is wrong with it, and what is told then: `check` what is refused of it, and
-- behind that the warnings, and it tells how many lines the first are; `sheets` what the new sheet changes, and it tells that of
-- these two sheets not all stays that is to stay.
abbrev pub Says : Command → Fault → (known old new : Option (List ℕ)) → Type 0
Says (Check kind) fault known old new =
    (input said warned : List ℕ) × IsChecked kind known input said warned × (said ≢ [])
    × (fault ≡ of_fault.Faults (line_count said)) × Appends old new (said ++ warned)
Says (Sheets asked) fault known old new =
    (before_it after_it : Sheet) × (text : List ℕ) × AreSheetsOf known asked.all before_it after_it text
    × (¬ StaysBefore asked.before before_it after_it) × (fault ≡ of_fault.Unlike) × Appends old new text
Says (Rate period) fault known old new = ⊥
Says Play fault known old new = ⊥
Says (File period) fault known old new = ⊥
Says (Threads size) fault known old new = ⊥
Says (Schedule request) fault known old new = ⊥
Says (Process kind) fault known old new = ⊥
Says Help fault known old new = ⊥
Says Version fault known old new = ⊥

-- What a command leaves where it refuses: `file` of a torn file all that the input has, and of an input that is too long a
-- prefix of the file; a process that is asked for too much its answers before; all else leaves nothing at all.
abbrev pub IsLeftBy : {W : Type 0} → SinkOf W → Command → Fault → (known : Option (List ℕ)) (writer writer' : W) → Type 0
IsLeftBy sink (File period) (of_fault.File file.Torn) known writer writer' =
    AppendsPart known period (sink.contents writer) (sink.contents writer')
IsLeftBy sink (File period) (of_fault.File file.TooLong) known writer writer' =
    AppendsPrefixOf known period (sink.contents writer) (sink.contents writer')
IsLeftBy sink (Process kind) (of_fault.Process process.TooLong) known writer writer' =
    (writer' ≡ writer) ⊎ HasAnswered kind known (sink.contents writer) (sink.contents writer')
IsLeftBy sink command fault known writer writer' = writer' ≡ writer

-- Nothing was written but the transcript of the first events of the schedule that the input is.
abbrev pub IsPlayedInPart : Option (List ℕ) → Option (List ℕ) → Option (List ℕ) → Type 0
IsPlayedInPart known old new = (input text : List ℕ) × IsPrefixOfTranscript known input text × Appends old new text

-- The writer is as it was; or the words ask for a period's file, and of that a prefix was written, as far as the input has it; or
-- for a process, and whole answers were.
abbrev pub IsUnwritten : {W A B : Type 0} → SinkOf W → Result (IntoIter (String A) B) Error → Option (List ℕ)
    → (writer writer' : W) → Type 0
IsUnwritten sink args known writer writer' =
    (writer' ≡ writer)
    ⊎ (((period : ℕ) × AsksFor args (File period) × AppendsPrefixOf known period (sink.contents writer) (sink.contents writer'))
    ⊎ ((kind : ProcessKind) × AsksFor args (Process kind) × HasAnswered kind known (sink.contents writer) (sink.contents writer')))

-- Of what is asked for a prefix was written that is not all of it, and nothing else. Which text help is no clause can say, since
-- `clap` says nothing of what it shows: so of help just this is known, that what was written, if anything, stands behind what was there.
abbrev pub IsDoneInPart : Command → (known old new : Option (List ℕ)) → Type 0
IsDoneInPart (Rate period) known old new = (input text : List ℕ) × IsFileOf known period input text × AppendsPrefix old new text
IsDoneInPart Play known old new = (input text : List ℕ) × IsTranscriptOf known input text × AppendsPrefix old new text
IsDoneInPart (Check kind) known old new =
    (input said warned : List ℕ) × IsChecked kind known input said warned × AppendsPrefix old new (said ++ warned)
IsDoneInPart (File period) known old new = AppendsLess known period old new
IsDoneInPart (Threads size) known old new = (run : Run) × IsRunOf size run × AppendsPrefix old new (report_text run)
IsDoneInPart (Sheets asked) known old new =
    (before_it after_it : Sheet) × (text : List ℕ) × AreSheetsOf known asked.all before_it after_it text
    × AppendsPrefix old new text
IsDoneInPart (Schedule request) known old new =
    (input text : List ℕ) × IsScheduleOf request known input text × AppendsPrefix old new text
IsDoneInPart (Process kind) known old new = (left : Option (List ℕ)) × RunsTorn kind known left old new
IsDoneInPart Help known old new = (text : List ℕ) × AppendsPrefix old new text
IsDoneInPart Version known old new = AppendsPrefix old new version_line

-- how many bytes of the input a command reads at most: one more than it may have; a process, which may go on for years, as many
-- as come
abbrev pub most_read : Command → Option ℕ
most_read (Rate period) = Some (most_input_bytes + 1)
most_read Play = Some (most_input_bytes + 1)
most_read (Check kind) = Some (most_input_bytes + 1)
most_read (File period) = Some (most_transcript_bytes + 1)
most_read (Threads size) = Some 0
most_read (Sheets asked) = Some (most_input_bytes + 1)
most_read (Schedule request) = Some (most_input_bytes + 1)
most_read (Process kind) = None
most_read Help = Some 0
most_read Version = Some 0

-- One call of the reader failed, and none of the writer.
abbrev pub ReaderFailed : {R W : Type 0} → SourceOf R → SinkOf W → (reader reader' : R) (writer writer' : W) → Type 0
ReaderFailed source sink reader reader' writer writer' =
    (source.failed_calls reader' ≡ next_count (source.failed_calls reader))
    × (sink.failed_calls writer' ≡ sink.failed_calls writer)

-- One call of the writer failed, and none of the reader.
abbrev pub WriterFailed : {R W : Type 0} → SourceOf R → SinkOf W → (reader reader' : R) (writer writer' : W) → Type 0
WriterFailed source sink reader reader' writer writer' =
    (sink.failed_calls writer' ≡ next_count (sink.failed_calls writer))
    × (source.failed_calls reader' ≡ source.failed_calls reader)

-- What a run leaves of the reader, the writer and the sink of its errors, by the status that it ends with.
pub record Ends {R W E A B : Type 0} (source : SourceOf R) (sink : SinkOf W) (telling : SinkOf E)
    (args : Result (IntoIter (String A) B) Error) (status : ℕ) (reader reader' : R) (writer writer' : W)
    (errors errors' : E) : Type 0 where
  pub range : status ≤ 4
  -- 0: what was asked for was written whole, and nothing else; only what is done without the input leaves it where it is.
  pub done : status ≡ 0 → (command : Command) × AsksFor args command
      × IsDone command (source.remaining reader) (source.remaining reader') (sink.contents writer) (sink.contents writer')
  pub end : status ≡ 0 → ((command : Command) → AsksFor args command → takes_input command ≡ true)
      → IsAtEnd (source.remaining reader')
  pub silent : status ≡ 0 → errors' ≡ errors
  -- 1: what was asked for is refused so, or it says what is wrong with the input, and tells so of the same input.
  pub refused : status ≡ 1 → (command : Command) × (fault : Fault) × AsksFor args command × (status_of fault ≡ 1)
      × ((Refuses command (source.remaining reader) fault × IsLeftBy sink command fault (source.remaining reader) writer writer')
      ⊎ Says command fault (source.remaining reader) (sink.contents writer) (sink.contents writer'))
      × Tells telling fault errors errors'
  -- 2: nothing was asked for.
  pub not_asked : status ≡ 2 → ((command : Command) → ¬ AsksFor args command)
      × Tells telling (of_fault.Line on_line.Line) errors errors'
  pub kept : status ≡ 2 → reader' ≡ reader
  -- 3: one call failed, and no other; where it was the writer's, just a prefix of what is asked for was written.
  pub device : status ≡ 3 → (command : Command) × AsksFor args command
      × ((ReaderFailed source sink reader reader' writer writer' × IsUnwritten sink args (source.remaining reader) writer writer'
      × Tells telling (of_fault.Play play.Read) errors errors')
      ⊎ (WriterFailed source sink reader reader' writer writer'
      × IsDoneInPart command (source.remaining reader) (sink.contents writer) (sink.contents writer')
      × Tells telling (of_fault.Play play.Write) errors errors'))
  pub calm : status ≢ 3 → (source.failed_calls reader' ≡ source.failed_calls reader)
      × (sink.failed_calls writer' ≡ sink.failed_calls writer)
  -- 4: out of memory; a schedule may have been played up to some event, a file written up to some byte, or a process have
  -- answered what it was asked first.
  pub memory : status ≡ 4 → Tells telling (of_fault.Play play.OutOfMemory) errors errors'
  pub part : status ≡ 4 → IsUnwritten sink args (source.remaining reader) writer writer'
      ⊎ (AsksFor args Play × IsPlayedInPart (source.remaining reader) (sink.contents writer) (sink.contents writer'))
  -- But at these nothing was written, save by `file` and by a process, and what is said.
  pub unwritten : status ≢ 0 → status ≢ 3 → status ≢ 4 → IsUnwritten sink args (source.remaining reader) writer writer'
      ⊎ ((command : Command) × (fault : Fault) × AsksFor args command
      × Says command fault (source.remaining reader) (sink.contents writer) (sink.contents writer'))
  -- At most so much is read, by `file` and by all others but a process. What is done without the input takes nothing of it, however
  -- it ends.
  pub read : ((period : ℕ) → ¬ AsksFor args (File period)) → ((kind : ProcessKind) → ¬ AsksFor args (Process kind))
      → ConsumesAtMost (most_input_bytes + 1) (source.remaining reader) (source.remaining reader')
  pub read_by_file : ((kind : ProcessKind) → ¬ AsksFor args (Process kind))
      → ConsumesAtMost (most_transcript_bytes + 1) (source.remaining reader) (source.remaining reader')
  pub unread : (command : Command) → AsksFor args command → takes_input command ≡ false → reader' ≡ reader
  -- where the process gave no words
  pub not_given : IfErr args (λ error. (error_kind error ≡ NoMemory → status ≡ 4) × (error_kind error ≢ NoMemory → status ≡ 2))
