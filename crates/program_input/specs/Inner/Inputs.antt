-- What an input comes to that was read up to the limit.
use Rattle.std.specs.Prelude.{ℕ, Vec, Result, Ok, Err}
use Rattle.std.specs.declared.alloc.Global.{Global}
use Rattle.counted_io.specs.declared.reading.Input.{Input}
use Rattle.counted_io.specs.declared.reading.Input.TheVariants as inputs
use Rattle.counted_io.specs.declared.reading.ReadFault.{ReadFault}
use Rattle.input_sections.specs.declared.faults.ScheduleCode.TheVariants.{TooLong}
use Rattle.input_sections.specs.declared.faults.ScheduleFault.TheVariants as sections
use Rattle.program_input.specs.declared.faults.PlayFault.{PlayFault}
use Rattle.program_input.specs.declared.faults.PlayFault.TheVariants.{Schedule}
use Rattle.program_input.specs.Faults.{of_reader}

abbrev pub whole_input : Result Input ReadFault → Result (Vec ℕ Global) PlayFault
whole_input (Ok (inputs.Whole bytes)) = Ok bytes
whole_input (Ok inputs.TooLong) = Err (Schedule (sections.Refused TooLong 1))
whole_input (Err fault) = Err (of_reader fault)
