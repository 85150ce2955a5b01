-- How the program ends at a fault.
use Rattle.std.specs.Prelude.{◌≡◌, ◌⊎◌, ℕ, List, ◌++◌, codes}
use Rattle.std.specs.Io.KnownBytes.{Appends}
use Rattle.counted_io.specs.Counts.{next_count}
use Rattle.counted_io.specs.Writing.{AppendsPrefix}
use Rattle.counted_io.specs.declared.writing.Sink.{Ghosts as SinkOf}
use Rattle.metering_model.specs.Transcript.{line, refusal_text, with_number}
use Rattle.program_input.specs.declared.ScheduleCode.TheVariants as code
use Rattle.program_input.specs.declared.ScheduleFault.TheVariants as section
use Rattle.command_line.specs.declared.words.LineFault.TheVariants as on_line
use Rattle.program_input.specs.declared.faults.PlayFault.TheVariants as play
use Rattle.period_file.specs.declared.faults.FileFault.TheVariants as file
use Rattle.threads_player.specs.declared.faults.ThreadsFault.TheVariants as threads
use Rattle.process_player.specs.declared.faults.ProcessFault.{ProcessFault}
use Rattle.process_player.specs.declared.faults.ProcessFault.TheVariants as process
use Rattle.process_player.specs.declared.LogCode.{LogCode}
use Rattle.process_player.specs.declared.LogCode.TheVariants as log
use Rattle.answer_words.specs.Words.{section_text}
use Rattle.command_line.specs.declared.statuses.Fault.{Fault}
use Rattle.command_line.specs.declared.statuses.Fault.TheVariants.{Line, Play, Faults, File, Threads, Process, Unlike, Refused, TooLong, NotClosed}

abbrev pub status_of_process : ProcessFault → ℕ
status_of_process process.Read = 3
status_of_process (process.Section (section.Refused code line)) = 1
status_of_process (process.Section section.OutOfMemory) = 4
status_of_process (process.Log code line) = 1
status_of_process process.OtherLog = 1
status_of_process process.NoJournal = 1
status_of_process process.TooLong = 1
status_of_process process.Write = 3
status_of_process process.OutOfMemory = 4

-- 1 refused input, no whole file, a mismatch or sheets that are unlike, 2 the command line, 3 a failed read or write, 4 out of
-- memory
abbrev pub status_of : Fault → ℕ
status_of (Line on_line.Line) = 2
status_of (Line on_line.OutOfMemory) = 4
status_of (Play (play.Refused refusal)) = 1
status_of (Play (play.Schedule (section.Refused code line))) = 1
status_of (Play (play.Schedule section.OutOfMemory)) = 4
status_of (Play play.Read) = 3
status_of (Play play.Write) = 3
status_of (Play play.OutOfMemory) = 4
status_of (Faults count) = 1
status_of (File file.NoFile) = 1
status_of (File file.Torn) = 1
status_of (File file.TooLong) = 1
status_of (File file.Read) = 3
status_of (File file.Write) = 3
status_of (File file.OutOfMemory) = 4
status_of (Threads threads.OutOfMemory) = 4
status_of (Threads threads.Mismatch) = 1
status_of (Threads threads.Write) = 3
status_of (Threads threads.Refused) = 1
status_of (Process fault) = status_of_process fault
status_of Unlike = 1
status_of (Refused told) = 1
status_of TooLong = 1
status_of NotClosed = 1

-- what is wrong with a line of a log, in a word
abbrev pub log_code_text : LogCode → List ℕ
log_code_text log.Head = codes "head"
log_code_text log.Kept = codes "kept"
log_code_text log.Increment = codes "increment"
log_code_text log.Torn = codes "torn"
log_code_text log.TooLong = codes "too long"

abbrev pub process_message : ProcessFault → List ℕ
process_message process.Read = codes "read failed"
process_message (process.Section (section.Refused code line)) = codes "refused " ++ section_text code line
process_message (process.Section section.OutOfMemory) = codes "out of memory"
process_message (process.Log code line) = codes "refused log: " ++ log_code_text code ++ with_number (codes " line ") line
process_message process.OtherLog = codes "refused log: of another process"
process_message process.NoJournal = codes "refused log: no journal of this agent"
process_message process.TooLong = codes "too long"
process_message process.Write = codes "write failed"
process_message process.OutOfMemory = codes "out of memory"

abbrev pub message_of : Fault → List ℕ
message_of (Line on_line.Line) = codes "bad command line (see focusd --help)"
message_of (Line on_line.OutOfMemory) = codes "out of memory"
message_of (Play (play.Refused refusal)) = codes "refused " ++ refusal_text refusal
message_of (Play (play.Schedule (section.Refused code line))) = codes "refused " ++ section_text code line
message_of (Play (play.Schedule section.OutOfMemory)) = codes "out of memory"
message_of (Play play.Read) = codes "read failed"
message_of (Play play.Write) = codes "write failed"
message_of (Play play.OutOfMemory) = codes "out of memory"
message_of (Faults count) = with_number (codes "faults ") count
message_of (File file.NoFile) = codes "no file"
message_of (File file.Torn) = codes "torn file"
message_of (File file.TooLong) = codes "refused " ++ section_text code.TooLong 1
message_of (File file.Read) = codes "read failed"
message_of (File file.Write) = codes "write failed"
message_of (File file.OutOfMemory) = codes "out of memory"
message_of (Threads threads.OutOfMemory) = codes "out of memory"
message_of (Threads threads.Mismatch) = codes "mismatch"
message_of (Threads threads.Write) = codes "write failed"
message_of (Threads threads.Refused) = codes "refused"
message_of (Process fault) = process_message fault
message_of Unlike = codes "unlike"
message_of (Refused told) = told.items
message_of TooLong = codes "too long"
message_of NotClosed = codes "not closed"

-- the line on standard error
abbrev pub ending_line : Fault → List ℕ
ending_line fault = line (codes "focusd: " ++ message_of fault)

-- The line of the fault was written and no call failed; or one call did, and of the line a prefix was written and never all.
abbrev pub Tells : {E : Type 0} → SinkOf E → Fault → (errors errors' : E) → Type 0
Tells sink fault errors errors' =
    (Appends (sink.contents errors) (sink.contents errors') (ending_line fault)
    × (sink.failed_calls errors' ≡ sink.failed_calls errors))
    ⊎ (AppendsPrefix (sink.contents errors) (sink.contents errors') (ending_line fault)
    × (sink.failed_calls errors' ≡ next_count (sink.failed_calls errors)))
