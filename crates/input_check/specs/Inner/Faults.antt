-- The fault that a reading ends in.
use Rattle.std.specs.Prelude.{Option, Some, None, Result, Ok, Err}
use Rattle.input_sections.specs.declared.faults.ScheduleFault.{ScheduleFault}

abbrev pub fault_of : {A : Type 0} → Result A ScheduleFault → Option ScheduleFault
fault_of (Ok x) = None
fault_of (Err fault) = Some fault
