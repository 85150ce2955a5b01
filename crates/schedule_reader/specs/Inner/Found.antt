-- Events that were found, before those that are still to be read.
use Rattle.std.specs.Prelude.{List, ◌++◌, Result, Ok, Err}
use Rattle.metering_model.specs.Schedule.{Planned}
use Rattle.input_sections.specs.declared.faults.ScheduleFault.{ScheduleFault}

abbrev pub in_front : List Planned → Result (List Planned) ScheduleFault → Result (List Planned) ScheduleFault
in_front found (Ok rest) = Ok (found ++ rest)
in_front found (Err fault) = Err fault
