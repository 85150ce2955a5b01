-- What an answer tells of an input.
use Rattle.std.specs.Prelude.{◌≡◌, ◌≢◌, ℕ, List, Option, Result, Err, IfSome}
use Rattle.metering_model.specs.declared.Refusal.{Refusal}
use Rattle.program_input.specs.declared.ScheduleFault.{ScheduleFault}
use Rattle.program_input.specs.declared.ScheduleFault.TheVariants.{OutOfMemory}
use Rattle.program_input.specs.declared.faults.PlayFault.{PlayFault}
use Rattle.program_input.specs.declared.faults.PlayFault.TheVariants.{Schedule, Refused}
use Rattle.schedule_reader.specs.Schedules.{schedule_in}

-- A refused section is the input's first fault, and want of memory is told as such. `Refused` is no answer.
pub record TellsFaults {A : Type 0} (answer : Result A PlayFault) (known : Option (List ℕ)) : Type 0 where
  pub section : (fault : ScheduleFault) → answer ≡ Err (Schedule fault) → IfSome known (λ input. schedule_in input ≡ Err fault)
  pub plain_memory : answer ≢ Err (Schedule OutOfMemory)
  pub unrefused : (refusal : Refusal) → answer ≢ Err (Refused refusal)
