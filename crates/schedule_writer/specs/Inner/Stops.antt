-- What a stop of private calls comes to.
use Rattle.schedule_writer.specs.declared.faults.WriteFault.{WriteFault}
use Rattle.schedule_writer.specs.declared.faults.WriteFault.TheVariants as fault
use Rattle.schedule_writer.specs.declared.faults.Stop.{Stop}
use Rattle.schedule_writer.specs.declared.faults.Stop.TheVariants.{TooLong, NotClosed, OutOfMemory}

abbrev pub of_stop : Stop → WriteFault
of_stop TooLong = fault.TooLong
of_stop NotClosed = fault.NotClosed
of_stop OutOfMemory = fault.OutOfMemory
