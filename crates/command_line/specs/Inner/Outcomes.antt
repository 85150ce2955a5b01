-- What came of a command, before anything is told of it.
use Rattle.std.specs.Prelude.{⊤, ◌≡◌, ◌≢◌, ◌⊎◌, ℕ, List, Option, Result, Ok, Err}
use Rattle.counted_io.specs.Counts.{next_count}
use Rattle.counted_io.specs.declared.writing.Sink.{Ghosts as SinkOf}
use Rattle.program_input.specs.declared.faults.PlayFault.TheVariants as play
use Rattle.period_file.specs.Files.{AppendsPrefixOf}
use Rattle.process_player.specs.declared.heads.ProcessKind.{ProcessKind}
use Rattle.process_player.specs.Runs.{HasAnswered}
use Rattle.schedule_writer.specs.Requests.{IsRequest}
use Rattle.threads_player.specs.Groups.{IsSize}
use Rattle.command_line.specs.Endings.{Tells, ending_line, status_of}
use Rattle.command_line.specs.Runs.{IsDone, IsDoneInPart, IsLeftBy, IsPlayedInPart, Refuses, Says}
use Rattle.command_line.specs.declared.commands.Command.{Command}
use Rattle.command_line.specs.declared.commands.Command.TheVariants.{Play, File, Threads, Schedule, Process}
use Rattle.command_line.specs.declared.statuses.Fault.{Fault}
use Rattle.command_line.specs.declared.statuses.Fault.TheVariants as of_fault

-- The command was done: of the reader are what was known and left, and how many calls failed, of the writer all.
pub record Does {W : Type 0} (sink : SinkOf W) (command : Command) (known left : Option (List ℕ)) (reads reads' : ℕ)
    (writer writer' : W) : Type 0 where
  pub done : IsDone command known left (sink.contents writer) (sink.contents writer')
  pub calm : (reads' ≡ reads) × (sink.failed_calls writer' ≡ sink.failed_calls writer)

-- The writer is as it was; or a period's file is asked for, and of that a prefix was written; or a process, and whole answers were.
abbrev pub IsKept : {W : Type 0} → SinkOf W → Command → Option (List ℕ) → (writer writer' : W) → Type 0
IsKept sink command known writer writer' =
    (writer' ≡ writer)
    ⊎ (((period : ℕ) × (command ≡ File period) × AppendsPrefixOf known period (sink.contents writer) (sink.contents writer'))
    ⊎ ((kind : ProcessKind) × (command ≡ Process kind) × HasAnswered kind known (sink.contents writer) (sink.contents writer')))

-- The command came to the fault.
pub record ComesTo {W : Type 0} (sink : SinkOf W) (command : Command) (fault : Fault) (known : Option (List ℕ)) (reads reads' : ℕ)
    (writer writer' : W) : Type 0 where
  pub understood : status_of fault ≢ 2
  pub refused : status_of fault ≡ 1
      → (Refuses command known fault × IsLeftBy sink command fault known writer writer')
      ⊎ Says command fault known (sink.contents writer) (sink.contents writer')
  pub device : status_of fault ≡ 3
      → ((ending_line fault ≡ ending_line (of_fault.Play play.Read)) × (reads' ≡ next_count reads)
      × (sink.failed_calls writer' ≡ sink.failed_calls writer) × IsKept sink command known writer writer')
      ⊎ ((ending_line fault ≡ ending_line (of_fault.Play play.Write))
      × (sink.failed_calls writer' ≡ next_count (sink.failed_calls writer)) × (reads' ≡ reads)
      × IsDoneInPart command known (sink.contents writer) (sink.contents writer'))
  pub calm : status_of fault ≢ 3 → (reads' ≡ reads) × (sink.failed_calls writer' ≡ sink.failed_calls writer)
  pub unwritten : status_of fault ≢ 3 → status_of fault ≢ 4
      → IsKept sink command known writer writer' ⊎ Says command fault known (sink.contents writer) (sink.contents writer')
  pub part : status_of fault ≡ 4 → IsKept sink command known writer writer'
      ⊎ ((command ≡ Play) × IsPlayedInPart known (sink.contents writer) (sink.contents writer'))

abbrev pub Leaves : {W : Type 0} → SinkOf W → Command → Result (Unit {0}) Fault → (known left : Option (List ℕ))
    (reads reads' : ℕ) (writer writer' : W) → Type 0
Leaves sink command (Ok done) known left reads reads' writer writer' = Does sink command known left reads reads' writer writer'
Leaves sink command (Err fault) known left reads reads' writer writer' =
    ComesTo sink command fault known reads reads' writer writer'

-- what can be run: a schedule or a group of a size that may be asked for
abbrev pub IsSound : Command → Type 0
IsSound (Schedule request) = IsRequest request
IsSound (Threads size) = IsSize size
IsSound _ = ⊤

-- the status of what came of a command, which is told where it is a fault
abbrev pub IsEnding : {E : Type 0} → SinkOf E → Result (Unit {0}) Fault → ℕ → (errors errors' : E) → Type 0
IsEnding sink (Ok done) status errors errors' = (status ≡ 0) × (errors' ≡ errors)
IsEnding sink (Err fault) status errors errors' = (status ≡ status_of fault) × Tells sink fault errors errors'
