-- Which fault of the input an answer tells.
use Rattle.std.specs.Prelude.{◌≡◌, ◌≢◌, ℕ, List, Option, Result, Ok, Err, IfSome}
use Rattle.metering_model.specs.declared.Refusal.{Refusal}
use Rattle.input_sections.specs.declared.faults.ScheduleFault.{ScheduleFault}
use Rattle.input_sections.specs.declared.faults.ScheduleFault.TheVariants.{OutOfMemory}
use Rattle.program_input.specs.declared.faults.PlayFault.{PlayFault}
use Rattle.program_input.specs.declared.faults.PlayFault.TheVariants.{Schedule, Refused}
use Rattle.sheet_changes.specs.Changes.{two_sheets_in}
use Rattle.sheet_changes.specs.declared.faults.SheetsFault.{SheetsFault}
use Rattle.sheet_changes.specs.declared.faults.SheetsFault.TheVariants.{Input, Unlike}

-- That two sheets are unlike tells of none.
abbrev pub of_input : {A : Type 0} → A → Result A SheetsFault → Result A PlayFault
of_input done (Ok x) = Ok x
of_input done (Err (Input fault)) = Err fault
of_input done (Err Unlike) = Ok done

-- A refused section is the input's first fault, and want of memory is told as such. `Refused` is no answer.
pub record TellsFaults {A : Type 0} (answer : Result A SheetsFault) (known : Option (List ℕ)) : Type 0 where
  pub section : (fault : ScheduleFault) → answer ≡ Err (Input (Schedule fault)) → IfSome known (λ input. two_sheets_in input ≡ Err fault)
  pub plain_memory : answer ≢ Err (Input (Schedule OutOfMemory))
  pub unrefused : (refusal : Refusal) → answer ≢ Err (Input (Refused refusal))
