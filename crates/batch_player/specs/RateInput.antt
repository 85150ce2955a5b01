-- What the program answers to a text that may begin with the sections of a sheet and of an issuer, and ends with a batch.
use Rattle.std.specs.Prelude.{ℕ, List, Result, Ok, Err}
use Rattle.metering_model.specs.FirstFailure.{◌>>=◌}
use Rattle.metering_model.specs.declared.Refusal.{Refusal}
use Rattle.metering_model.specs.RatedAlone.{file_by}
use Rattle.input_sections.specs.declared.faults.ScheduleFault.{ScheduleFault}
use Rattle.input_sections.specs.RateInput.{rate_input_in}
use Rattle.program_input.specs.declared.faults.PlayFault.{PlayFault}
use Rattle.program_input.specs.declared.faults.PlayFault.TheVariants.{Schedule, Refused}

abbrev pub or_schedule : {A : Type 0} → Result A ScheduleFault → Result A PlayFault
or_schedule (Ok x) = Ok x
or_schedule (Err fault) = Err (Schedule fault)

abbrev pub or_refused : {A : Type 0} → Result A Refusal → Result A PlayFault
or_refused (Ok x) = Ok x
or_refused (Err refusal) = Err (Refused refusal)

-- the file of an input, or why it is refused: first by its sections, and then by its batch
unfoldable pub rated_file : ℕ → List ℕ → Result (List ℕ) PlayFault
rated_file period input = do
  given ← or_schedule (rate_input_in input)
  or_refused (file_by given.sheet given.issuer period given.batch)
